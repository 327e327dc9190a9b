-- The input lines, read one by one.
-- Assumes nothing.
use mathlib.Core.Path.{◌≡◌, ◌∙◌}
use mathlib.Core.Bool.{true, false}
use mathlib.Core.List.{List, [], ◌∷◌, ◌++◌}
use Rattle.std.specs.Prelude.{Some, None}
use Prim.Native.Nat.{ℕ, suc, ◌+◌, ◌-◌, ◌*◌, ◌≤◌, ◌<◌}
use native.Mathlib.Omega.{arith}
use lib.ListN.{length, length-append}
use Rattle.clauses.specs.Bytes.{lf}
use Rattle.aiger.specs.declared.line.Field.{Field}
use Rattle.aiger.specs.Line.{literal_at, is_new, input_at, faulty, input_lines}
use Rattle.aiger.specs.Scanning.{InputsListed}
use Rattle.aiger.proofs.Fields.{literal_read}

module _ (m : ℕ) (text : List ℕ) (count : ℕ) where
  -- the line at hand
  module _ (before : List ℕ) (i at : ℕ) (h : i < count) where
    one_less : count - i ≡ suc (count - (i + 1))
    one_less = omega arith

    line_faulty : input_at m before text at ≡ None → input_lines m text (count - i) before at ≡ faulty at
    unfolding input_lines
    line_faulty e = rw (one_less, input_lines, e)

    module _ (x : Field) (e : literal_at m lf text at ≡ Some x) where
      line_there : is_new before x.value ≡ true → input_at m before text at ≡ Some x
      unfolding input_at
      line_there n = rw (e, n)

      line_new : is_new before x.value ≡ true → input_lines m text (count - i) before at ≡ input_lines m text (count - (i + 1)) (before ++ (x.value ∷ [])) x.next
      unfolding input_lines
      line_new n = rw (one_less, input_lines, line_there n)

      line_not_new : is_new before x.value ≡ false → input_at m before text at ≡ None
      unfolding input_at
      line_not_new n = rw (e, n)

  module _ (from : ℕ) where
    -- i input lines are read, and those from place at on decide
    pub record Listed (listed : List ℕ) (at i : ℕ) : Type 0 where
      pub rest : input_lines m text count [] from ≡ input_lines m text (count - i) listed at
      pub far : 2 * length listed ≤ at
      pub within : at ≤ length text

    module _ (listed : List ℕ) (at i : ℕ) (s : Listed listed at i) where
      pub listed_all : count ≤ i → InputsListed m text count from at listed
      unfolding input_lines
      listed_all h =
          let z : count - i ≡ 0 = omega arith in
          record { lines_are = rw z at s.rest; far = s.far; within = s.within }

      module _ (h : i < count) where
        pub listed_missing : literal_at m lf text at ≡ None → input_lines m text count [] from ≡ faulty at
        unfolding input_at
        listed_missing e = s.rest ∙ line_faulty listed i at h (rw e)

        module _ (x : Field) (e : literal_at m lf text at ≡ Some x) where
          pub listed_not_new : is_new listed x.value ≡ false → input_lines m text count [] from ≡ faulty at
          listed_not_new n = s.rest ∙ line_faulty listed i at h (line_not_new listed i at h x e n)

          pub listed_room : 2 * length listed + 2 ≤ length text
          listed_room = let r = (literal_read lf text at m (omega arith) _ e).0 in omega (arith, r.further, r.within, s.far)

          pub listed_new : is_new listed x.value ≡ true → Listed (listed ++ (x.value ∷ [])) x.next (i + 1)
          listed_new n =
              let r = (literal_read lf text at m (omega arith) _ e).0 in
              record {
                rest = s.rest ∙ line_new listed i at h x e n;
                far = omega (arith, s.far, r.further, length-append listed (x.value ∷ []));
                within = r.within;
              }
