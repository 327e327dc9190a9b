-- Entries that are put into a row one after another, and counted.
-- Assumes nothing.
use mathlib.Core.Path.{◌≡◌, refl, sym, ◌∙◌, ap}
use mathlib.Core.Logic.{◌≢◌}
use mathlib.Core.Bool.{Bool, true, false, cond}
use mathlib.Core.List.{List, [], ◌∷◌, ◌++◌, map, append-nil}
use Prim.Native.Nat.{ℕ, ◌+◌, ◌%◌, ◌≤◌, ◌<◌}
use native.Mathlib.Nat.{zero-add}
use native.Mathlib.Numerals.{add-one}
use native.Mathlib.Omega.{arith}
use borrow.Author.Tests.{eq-eqb, ne_eqb}
use borrow.Table.Steps.{cases}
use lib.Dec.{eqb}
use lib.IntN.{ℤ, nat_abs}
use lib.ListN.{length, get_or, set, take, length-append, length-map}
use lib.Seq.{sets, take-suc, length-take-le}
use Rattle.clauses.specs.Code.{net}
use Rattle.clauses.specs.Lists.{each}
use Rattle.clauses.specs.Number.{signed}
use Rattle.clauses.specs.Tally.{start, step, tallied, tally_of}
use Rattle.clauses.specs.declared.tally.EntryTally.{EntryTally}
use Rattle.clauses.proofs.Lists.{each_append}
use Rattle.clauses.proofs.Tallies.{tally_none, tally_append}
use Rattle.clauses.proofs.Writes.{sets_append}
use Rattle.aiger.specs.Circuit.{entry_of}
use Rattle.aiger.specs.declared.clause.MadeEntries.{MadeEntries}
use Rattle.aiger.specs.Scanning.{Room, Stored, Put, literal_entries}
use Rattle.aiger.proofs.Entries.{signed_magnitude}

module _ (v : ℕ) where
  -- magnitudes counted one after another

  tallied_then : (t : EntryTally) (ms ns : List ℕ) → tallied v t (ms ++ ns) ≡ tallied v (tallied v t ms) ns
  unfolding tallied
  tallied_then t [] ns = refl
  tallied_then t (m ∷ ms) ns = tallied_then (step v t m) ms ns

  map_append : (es fs : List ℤ) → map nat_abs (es ++ fs) ≡ map nat_abs es ++ map nat_abs fs
  map_append [] fs = refl
  map_append (z ∷ es) fs = ap (λ (l : List ℕ). nat_abs z ∷ l) (map_append es fs)

  tallied_entries : (t : EntryTally) (ms : List ℕ) → (tallied v t ms).entries ≡ t.entries + length ms
  unfolding tallied step
  tallied_entries t [] = omega arith
  tallied_entries t (m ∷ ms) = omega (arith, tallied_entries (step v t m) ms)

  tallied_zeros : (t : EntryTally) (ms : List ℕ) → t.zeros ≤ t.entries → (tallied v t ms).zeros ≤ (tallied v t ms).entries
  unfolding tallied step
  tallied_zeros t [] h = h
  tallied_zeros t (m ∷ ms) h = tallied_zeros (step v t m) ms (more (eqb m 0))
    where
      more : (b : Bool) → cond b (t.zeros + 1) t.zeros ≤ t.entries + 1
      more true = omega arith
      more false = omega arith

  -- nothing put
  pub stored_none : (t : EntryTally) (kept : List ℤ) → Stored v t kept [] t kept
  unfolding tallied
  stored_none t kept = record { tally = refl; content = refl }

  -- one entry put
  pub stored_entry : (z : ℤ) {t u : EntryTally} {kept kept' : List ℤ} → u ≡ step v t (nat_abs z) → kept' ≡ set kept t.entries z → Stored v t kept (z ∷ []) u kept'
  unfolding tallied
  stored_entry z e k = record { tally = e; content = k }

  module _ {t u : EntryTally} {kept kept' es : List ℤ} (s : Stored v t kept es u kept') where
    pub stored_count : u.entries ≡ t.entries + length es
    stored_count = ap (λ (w : EntryTally). w.entries) s.tally ∙ tallied_entries t (map nat_abs es) ∙ ap (λ (n : ℕ). t.entries + n) (length-map es nat_abs)

    -- there is room left
    pub stored_room : (m n : ℕ) → Room t m → length es + n ≤ m → Room u n
    stored_room m n r h =
        record {
          zeros_few = rw s.tally (tallied_zeros t (map nat_abs es) r.zeros_few);
          entries_few = omega (arith, stored_count, r.entries_few);
        }

    pub stored_then : {w : EntryTally} {kept'' fs : List ℤ} → Stored v u kept' fs w kept'' → Stored v t kept (es ++ fs) w kept''
    stored_then {w} {kept''} {fs} b =
        record {
          tally = b.tally ∙ rw s.tally (sym (tallied_then t (map nat_abs es) (map nat_abs fs)) ∙ ap (tallied v t) (sym (map_append es fs)));
          content = b.content ∙ rw (s.content, stored_count) (sym (sets_append kept t.entries es fs));
        }

  -- from the start on, and behind the entries that are there already
  pub stored_all : (kept es : List ℤ) {t : EntryTally} {kept' kept'' fs : List ℤ} → kept' ≡ sets kept 0 es → Stored v (tally_of v es) kept' fs t kept''
      → (t ≡ tally_of v (es ++ fs)) × (kept'' ≡ sets kept 0 (es ++ fs))
  unfolding tally_of
  stored_all kept es {fs = fs} e s = (s.tally ∙ tally_append v fs es, s.content ∙ rw (e, ← zero-add (length es)) (sym (sets_append kept 0 es fs)))

literal_few : (x : ℕ) → length (literal_entries x) ≤ 1
unfolding literal_entries
literal_few x = cases (eqb x 0) (λ t. rw t (omega arith)) (λ t. rw t (omega arith))

pub literals_few : (c : List ℕ) → length (each c literal_entries) ≤ length c
unfolding each
literals_few [] = omega arith
literals_few (x ∷ c) = rw length-append (omega (arith, literal_few x, literals_few c))

pub literals_next : (c : List ℕ) (i : ℕ) → i < length c → each (take (i + 1) c) literal_entries ≡ each (take i c) literal_entries ++ literal_entries (get_or c i 0)
unfolding each
literals_next c i h = rw (add-one, take-suc c i 0 h, each_append) (ap (λ (l : List ℤ). each (take i c) literal_entries ++ l) (one (get_or c i 0)))
  where
    one : (x : ℕ) → each (x ∷ []) literal_entries ≡ literal_entries x
    one x = append-nil (literal_entries x)

-- The same with a row of entries that are made

-- an entry more
pub put_entry : (e : MadeEntries) (minus : Bool) (n : ℕ) {f : MadeEntries} → f.nets ≡ e.nets → f.tally ≡ step e.nets e.tally n → f.row ≡ set e.row e.tally.entries (signed minus n) → Put e (signed minus n ∷ []) f
put_entry e minus n v t r =
    record { nets_are = v; stored = stored_entry e.nets (signed minus n) (t ∙ ap (step e.nets e.tally) (sym (signed_magnitude minus n))) r }

pub put_none : (e : MadeEntries) → Put e [] e
put_none e = record { nets_are = refl; stored = stored_none e.nets e.tally e.row }

module _ {e f : MadeEntries} {es : List ℤ} (s : Put e es f) where
  pub put_then : {g : MadeEntries} {fs : List ℤ} → Put f fs g → Put e (es ++ fs) g
  put_then {g} {fs} b = record { nets_are = b.nets_are ∙ s.nets_are; stored = stored_then e.nets s.stored (rw s.nets_are at b.stored) }

  pub put_room : (m n : ℕ) → Room e.tally m → length es + n ≤ m → Room f.tally n
  put_room m n r h = stored_room e.nets s.stored m n r h

  -- from the start on
  pub put_start : e.tally ≡ start → (f.tally ≡ tally_of e.nets es) × (f.row ≡ sets e.row 0 es)
  put_start h = stored_all e.nets e.row [] refl (rw (h, tally_none e.nets []) at s.stored)

-- the room that the first i literals of a clause leave
pub literals_room : {e f : MadeEntries} (c : List ℕ) (i : ℕ) → Put e (each (take i c) literal_entries) f → i ≤ length c → Room e.tally (length c + 1)
    → (n : ℕ) → i + n ≤ length c + 1 → Room f.tally n
literals_room c i s h r n k = put_room s (length c + 1) n r (omega (arith, literals_few (take i c), length-take-le i c h))

-- the entry of a literal, unless it is the constant F
pub literal_false : (x : ℕ) → x ≡ 0 → literal_entries x ≡ []
unfolding literal_entries
literal_false x e = rw (eq-eqb x 0 e)

pub literal_there : (x : ℕ) → x ≢ 0 → literal_entries x ≡ signed (eqb (x % 2) 1) (net x) ∷ []
unfolding literal_entries entry_of
literal_there x n = rw (ne_eqb x 0 n)
