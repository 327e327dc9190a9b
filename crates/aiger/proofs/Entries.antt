-- Entries that clauses make.
-- Assumes nothing.
use mathlib.Core.Path.{◌≡◌, refl, sym, ◌∙◌, ap, subst, subst⁻¹}
use mathlib.Core.Logic.{◌≢◌, ◌⊎◌, inl, inr, ⊎_elim}
use mathlib.Core.Bool.{Bool, true, false, cond, not, ◌||◌, true≢false}
use mathlib.Core.List.Memᴰ
use mathlib.Core.List.{List, [], ◌∷◌, ◌++◌, map, map-append, append_assoc, append-nil, Memᴰ}
use Prim.Native.Nat.{ℕ, zero, suc, ◌+◌, ◌*◌, ◌%◌, ◌≤◌}
use native.Mathlib.Omega.{arith}
use borrow.Author.Tests.{le-ltb, eq-eqb, ne_eqb, eqb-true, eqb-false}
use borrow.Table.Steps.{cases}
use lib.Dec.{eqb}
use lib.IntN.{ℤ, pos, nat_abs}
use lib.ListN.{length, length-append, length-map}
use Rattle.clauses.specs.Clause.{Mem, Tautology}
use Rattle.clauses.specs.Code.{negate, net}
use Rattle.std.specs.List.{list_any}
use Rattle.clauses.specs.Lists.{any, keep, each}
use Rattle.clauses.specs.Listing.{mem, tautology}
use Rattle.clauses.specs.Number.{signed}
use Rattle.clauses.specs.Refusal.{first_over, is_ended, zeros, entry_tests}
use Rattle.clauses.proofs.Clauses.{mem_in, in_mem, tautology_is, is_tautology}
use Rattle.clauses.proofs.Deciding.{NoneHolds}
use Rattle.clauses.proofs.Lists.{or_cases, or_left, or_right, not_is, not_eqb, eqb_not, in_first, mem_map, mem_of_map, keep_has, has_keep, keep_append, keep_length, each_elim, each_append}
use Rattle.aiger.specs.declared.ands.And.{And}
use Rattle.aiger.specs.Circuit.{Circuit, and_clauses, is_left_out, without_false, simplified, circuit_clauses, entry_of, literal_row}
use Rattle.aiger.specs.Reading.{entries_of}
use Rattle.aiger.specs.Scanning.{made, clause_entries, literal_entries, and_entries}

-- Clauses one after another

pub row_nil : literal_row [] ≡ []
unfolding literal_row each
row_nil = refl

pub row_cons : (c : List ℕ) (cs : List (List ℕ)) → literal_row (c ∷ cs) ≡ map entry_of c ++ (pos 0 ∷ literal_row cs)
unfolding literal_row each
row_cons c cs = append_assoc (map entry_of c) (pos 0 ∷ []) (literal_row cs)

simplified_append : (cs ds : List (List ℕ)) → simplified (cs ++ ds) ≡ simplified cs ++ simplified ds
unfolding simplified
simplified_append cs ds = rw keep_append (map-append without_false (keep (λ c. not (is_left_out c)) cs) (keep (λ c. not (is_left_out c)) ds))

pub made_append : (cs ds : List (List ℕ)) → made (cs ++ ds) ≡ made cs ++ made ds
unfolding made literal_row
made_append cs ds = rw simplified_append (each_append (simplified cs) (simplified ds) (λ c. map entry_of c ++ (pos 0 ∷ [])))

-- Clauses left out

-- a clause with the constant T, or with a net and its inverse
abbrev pub LeftOut : List ℕ → Type 0
LeftOut c = Mem 1 c ⊎ Tautology c

pub left_out_has : (c : List ℕ) → is_left_out c ≡ true → LeftOut c
unfolding is_left_out
left_out_has c h = ⊎_elim (λ e. inl (mem_in 1 c e)) (λ e. inr (tautology_is c e)) (or_cases (mem 1 c) (tautology c) h)

pub has_left_out : (c : List ℕ) → LeftOut c → is_left_out c ≡ true
unfolding is_left_out
has_left_out c (inl m) = or_left (tautology c) (in_mem c m)
has_left_out c (inr t) = or_right (mem 1 c) (is_tautology c t)

-- the tests of a clause as std's search for an element answers them
any_list : {A : Type 0} (f g : A → Bool) (xs : List A) → ((x : A) → f x ≡ g x) → any f xs ≡ list_any g xs
unfolding any
any_list f g [] e = refl
any_list f g (x ∷ xs) e = rw (← e x) (cases (f x) (λ t. rw (t, any)) (λ t. rw (t, any) (any_list f g xs e)))

mem_any : (x : ℕ) (c : List ℕ) → mem x c ≡ list_any (λ y. eqb y x) c
unfolding mem
mem_any x c = any_list (λ y. eqb x y) (λ y. eqb y x) c (λ y. cases (eqb x y) (λ t. rw (t, eq-eqb y x (sym (eqb-true x y t)))) (λ t. rw (t, ne_eqb y x (λ d. eqb-false x y t (sym d)))))

pub left_out_any : (c : List ℕ) → is_left_out c ≡ (list_any (λ y. eqb y 1) c || list_any (λ x. list_any (λ y. eqb y (negate x)) c) c)
unfolding is_left_out tautology
left_out_any c = rw (mem_any 1 c, any_list (λ x. mem (negate x) c) (λ x. list_any (λ y. eqb y (negate x)) c) c (λ x. mem_any (negate x) c))

-- The entries of one clause

made_clause : (c : List ℕ) → clause_entries c ≡ cond (is_left_out c) [] (map entry_of (without_false c) ++ (pos 0 ∷ []))
unfolding made literal_row simplified each keep
made_clause c = cases (is_left_out c) (λ e. rw (e, keep)) (λ e. rw (e, keep) (append-nil (map entry_of (without_false c) ++ (pos 0 ∷ []))))

pub made_left_out : (c : List ℕ) → is_left_out c ≡ true → clause_entries c ≡ []
made_left_out c e = rw (made_clause c, e)

made_kept : (c : List ℕ) → is_left_out c ≡ false → clause_entries c ≡ map entry_of (without_false c) ++ (pos 0 ∷ [])
made_kept c e = rw (made_clause c, e)

literal_cons : (x : ℕ) (c : List ℕ) → map entry_of (without_false (x ∷ c)) ≡ literal_entries x ++ map entry_of (without_false c)
unfolding without_false literal_entries keep
literal_cons x c = cases (eqb x 0) (λ e. rw (e, keep)) (λ e. rw (e, keep))

literal_none : map entry_of (without_false []) ≡ []
unfolding without_false keep
literal_none = refl

pub made_literals : (c : List ℕ) → is_left_out c ≡ false → clause_entries c ≡ each c literal_entries ++ (pos 0 ∷ [])
unfolding each
made_literals c e = made_kept c e ∙ rw (literals_each c)
  where
    literals_each : (c : List ℕ) → map entry_of (without_false c) ≡ each c literal_entries
    literals_each [] = literal_none
    literals_each (x ∷ c) = literal_cons x c ∙ ap (λ (l : List ℤ). literal_entries x ++ l) (literals_each c)

-- The constant F at a clause's end

-- two tests that hold in the same cases
same_test : (a b : Bool) → (a ≡ true → b ≡ true) → (b ≡ true → a ≡ true) → a ≡ b
same_test true b f g = sym (f refl)
same_test false true f g = g refl
same_test false false f g = refl

false_left_out : (c : List ℕ) → is_left_out (c ++ (0 ∷ [])) ≡ is_left_out c
false_left_out c = same_test (is_left_out (c ++ (0 ∷ []))) (is_left_out c) (λ h. has_left_out c (out (left_out_has (c ++ (0 ∷ [])) h))) (λ h. has_left_out (c ++ (0 ∷ [])) (into (left_out_has c h)))
  where
    in_front : {x : ℕ} → Mem x c → Mem x (c ++ (0 ∷ []))
    in_front m = Memᴰ.append_left (0 ∷ []) m

    into : LeftOut c → LeftOut (c ++ (0 ∷ []))
    into (inl m) = inl (in_front m)
    into (inr t) = inr (record { lit = t.lit; plain = in_front t.plain; inverse = in_front t.inverse })

    behind : {x : ℕ} → Mem x (c ++ (0 ∷ [])) → Mem x c ⊎ (x ≡ 0)
    behind m = ⊎_elim inl (λ k. inr (Memᴰ.eq_of_singleton k)) (Memᴰ.append_cases c m)

    one : {x : ℕ} → x ≡ 1 → Mem x c → Mem 1 c
    one e m = Memᴰ.cast (sym e) m

    out : LeftOut (c ++ (0 ∷ [])) → LeftOut c
    out (inl m) = inl (elim (behind m) [ inl k ↦ k | inr e ↦ absurd (omega arith) ])
    out (inr t) = both t.lit (behind t.plain) (behind t.inverse)
      where
        both : (x : ℕ) → Mem x c ⊎ (x ≡ 0) → Mem (negate x) c ⊎ (negate x ≡ 0) → LeftOut c
        both x (inl p) (inl q) = inr (record { lit = x; plain = p; inverse = q })
        both x (inl p) (inr q) = inl (one (omega arith) p)
        both x (inr p) (inl q) = inl (one (omega arith) q)
        both x (inr p) (inr q) = absurd (omega arith)

false_dropped : (c : List ℕ) → without_false (c ++ (0 ∷ [])) ≡ without_false c
unfolding without_false keep
false_dropped c = keep_append (λ x. not (eqb x 0)) c (0 ∷ []) ∙ append-nil (keep (λ x. not (eqb x 0)) c)

-- a clause with the constant F at its end makes the same entries
made_false : (c : List ℕ) → clause_entries (c ++ (0 ∷ [])) ≡ clause_entries c
made_false c = made_clause (c ++ (0 ∷ [])) ∙ rw (false_left_out c, false_dropped c) (sym (made_clause c))

pub made_two : (x y : ℕ) → clause_entries (x ∷ y ∷ 0 ∷ []) ≡ clause_entries (x ∷ y ∷ [])
made_two x y = made_false (x ∷ y ∷ [])

pub made_one : (x : ℕ) → clause_entries (x ∷ 0 ∷ 0 ∷ []) ≡ clause_entries (x ∷ [])
made_one x = made_false (x ∷ 0 ∷ []) ∙ made_false (x ∷ [])

-- The entries of AND lines and of a circuit

-- what holds of the three clauses of an AND line holds of all
pub and_all : (g : And) (P : List ℕ → Type 0) → P (negate g.output ∷ g.left ∷ []) → P (negate g.output ∷ g.right ∷ [])
    → P (g.output ∷ negate g.left ∷ negate g.right ∷ []) → (c : List ℕ) → Memᴰ c (and_clauses g) → P c
unfolding and_clauses
and_all g P p q r c (Memᴰ.head e) = subst⁻¹ P e p
and_all g P p q r c (Memᴰ.tail (Memᴰ.head e)) = subst⁻¹ P e q
and_all g P p q r c (Memᴰ.tail (Memᴰ.tail m)) = subst⁻¹ P (Memᴰ.eq_of_singleton m) r

pub made_and : (g : And) → made (and_clauses g) ≡ clause_entries (negate g.output ∷ g.left ∷ []) ++ (clause_entries (negate g.output ∷ g.right ∷ []) ++ clause_entries (g.output ∷ negate g.left ∷ negate g.right ∷ []))
unfolding and_clauses
made_and g =
    made_append ((negate g.output ∷ g.left ∷ []) ∷ []) ((negate g.output ∷ g.right ∷ []) ∷ (g.output ∷ negate g.left ∷ negate g.right ∷ []) ∷ [])
    ∙ ap (λ (l : List ℤ). clause_entries (negate g.output ∷ g.left ∷ []) ++ l) (made_append ((negate g.output ∷ g.right ∷ []) ∷ []) ((g.output ∷ negate g.left ∷ negate g.right ∷ []) ∷ []))

pub and_entries_cons : (g : And) (gs : List And) → and_entries (g ∷ gs) ≡ made (and_clauses g) ++ and_entries gs
unfolding each
and_entries_cons g gs = made_append (and_clauses g) (each gs and_clauses)

-- the clauses of a circuit before they are simplified
abbrev pub given_clauses : Circuit → List (List ℕ)
given_clauses k = each k.ands and_clauses ++ ((k.output ∷ []) ∷ [])

pub circuit_made : (k : Circuit) → entries_of k ≡ made (given_clauses k)
unfolding entries_of circuit_clauses made
circuit_made k = refl

pub circuit_entries : (k : Circuit) → entries_of k ≡ and_entries k.ands ++ clause_entries (k.output ∷ [])
circuit_entries k = circuit_made k ∙ made_append (each k.ands and_clauses) ((k.output ∷ []) ∷ [])

-- Clauses that stay

-- the clause that a simplified one comes from
pub record KeptFrom (cs : List (List ℕ)) (c : List ℕ) : Type 0 where
  pub of : List ℕ
  pub listed : Memᴰ of cs
  pub kept : is_left_out of ≡ false
  pub is : c ≡ without_false of

pub simplified_has : (cs : List (List ℕ)) {c : List ℕ} → Memᴰ c (simplified cs) → KeptFrom cs c
unfolding simplified
simplified_has cs m =
    let o = mem_of_map without_false (keep (λ d. not (is_left_out d)) cs) m in
    let t = keep_has (λ d. not (is_left_out d)) cs o.of o.in_list in
    record { of = o.of; listed = t.0; kept = not_is (is_left_out o.of) t.1; is = o.is }

pub has_simplified : (cs : List (List ℕ)) {c : List ℕ} → Memᴰ c cs → is_left_out c ≡ false → Memᴰ (without_false c) (simplified cs)
unfolding simplified
has_simplified cs m e = mem_map without_false (has_keep (λ d. not (is_left_out d)) cs m (ap not e))

pub without_has : (c : List ℕ) {x : ℕ} → Mem x (without_false c) → Mem x c × (x ≢ 0)
unfolding without_false
without_has c {x} m = let t = keep_has (λ y. not (eqb y 0)) c x m in (t.0, not_eqb x 0 t.1)

pub has_without : (c : List ℕ) {x : ℕ} → Mem x c → x ≢ 0 → Mem x (without_false c)
unfolding without_false
has_without c {x} m n = has_keep (λ y. not (eqb y 0)) c m (eqb_not x 0 n)

-- a literal that stays is one of its clause, and no constant
module _ (cs : List (List ℕ)) {c : List ℕ} (m : Memᴰ c (simplified cs)) {x : ℕ} (i : Mem x c) where
  kept_literal : Mem x (simplified_has cs m).of × (x ≢ 0)
  kept_literal = let k = simplified_has cs m in without_has k.of (subst (Mem x) k.is i)

  kept_net : 2 ≤ x
  kept_net =
      let k = simplified_has cs m in
      let n : x ≢ 1 = λ e. true≢false (sym (has_left_out k.of (inl (Memᴰ.cast (sym e) kept_literal.0))) ∙ k.kept) in
      omega (arith, kept_literal.1)

-- every literal is a net or its inverse
abbrev pub Nets : List (List ℕ) → Type 0
Nets cs = (c : List ℕ) → Memᴰ c cs → (x : ℕ) → Mem x c → 2 ≤ x

pub simplified_nets : (cs : List (List ℕ)) → Nets (simplified cs)
simplified_nets cs c m x i = kept_net cs m i

-- What the tests count

pub signed_magnitude : (b : Bool) (m : ℕ) → nat_abs (signed b m) ≡ m
signed_magnitude false m = refl
signed_magnitude true zero = refl
signed_magnitude true (suc m) = refl

pub entry_magnitude : (x : ℕ) → nat_abs (entry_of x) ≡ net x
unfolding entry_of
entry_magnitude x = signed_magnitude (eqb (x % 2) 1) (net x)

clause_zeros : (c : List ℕ) (row : List ℤ) → ((x : ℕ) → Mem x c → 2 ≤ x) → zeros (map entry_of c ++ row) ≡ zeros row
unfolding zeros
clause_zeros [] row h = refl
clause_zeros (x ∷ c) row h =
    let n : 2 ≤ x = h x in_first in
    rw (entry_magnitude x, ne_eqb (net x) 0 (λ e. omega arith)) (clause_zeros c row (λ y m. h y (Memᴰ.tail m)))

row_zeros : (cs : List (List ℕ)) → Nets cs → zeros (literal_row cs) ≡ length cs
unfolding zeros
row_zeros [] h = ap zeros row_nil
row_zeros (c ∷ cs) h =
    ap zeros (row_cons c cs) ∙ clause_zeros c (pos 0 ∷ literal_row cs) (h c in_first) ∙ ap suc (row_zeros cs (λ d m. h d (Memᴰ.tail m)))

pub made_zeros : (cs : List (List ℕ)) → zeros (made cs) ≡ length (simplified cs)
unfolding made
made_zeros cs = row_zeros (simplified cs) (simplified_nets cs)

-- a row of clauses is empty or ends in 0

ended_append : (es : List ℤ) (z : ℤ) (row : List ℤ) → is_ended (es ++ (z ∷ row)) ≡ is_ended (z ∷ row)
unfolding is_ended
ended_append [] z row = refl
ended_append (y ∷ []) z row = refl
ended_append (y ∷ x ∷ es) z row = ended_append (x ∷ es) z row

ended_zero : (row : List ℤ) → is_ended row ≡ true → is_ended (pos 0 ∷ row) ≡ true
unfolding is_ended
ended_zero [] h = refl
ended_zero (z ∷ row) h = h

row_ended : (cs : List (List ℕ)) → is_ended (literal_row cs) ≡ true
unfolding is_ended
row_ended [] = ap is_ended row_nil
row_ended (c ∷ cs) = ap is_ended (row_cons c cs) ∙ ended_append (map entry_of c) (pos 0) (literal_row cs) ∙ ended_zero (literal_row cs) (row_ended cs)

pub made_ended : (cs : List (List ℕ)) → is_ended (made cs) ≡ true
unfolding made
made_ended cs = row_ended (simplified cs)

-- every literal of a clause is at most b
abbrev pub Below : ℕ → List ℕ → Type 0
Below b c = (x : ℕ) → Mem x c → x ≤ b

below_none : {b : ℕ} → Below b []
below_none x i = elim i [ ]

below_more : {b x : ℕ} {c : List ℕ} → x ≤ b → Below b c → Below b (x ∷ c)
below_more p h y (Memᴰ.head e) = omega arith
below_more p h y (Memᴰ.tail i) = h y i

-- entries within m
module _ (m : ℕ) where
  within_more : (z : ℤ) (row : List ℤ) → nat_abs z ≤ m → first_over m row ≡ length row → first_over m (z ∷ row) ≡ length (z ∷ row)
  unfolding first_over
  within_more z row h e = rw (le-ltb m (nat_abs z) h) (ap suc e)

  clause_within : (c : List ℕ) (row : List ℤ) → Below (2 * m + 1) c → first_over m row ≡ length row → first_over m (map entry_of c ++ row) ≡ length (map entry_of c ++ row)
  clause_within [] row h e = e
  clause_within (x ∷ c) row h e =
      let n : x ≤ 2 * m + 1 = h x in_first in
      within_more (entry_of x) (map entry_of c ++ row) (omega (arith, entry_magnitude x)) (clause_within c row (λ y i. h y (Memᴰ.tail i)) e)

  -- every literal of the list is one of a circuit with m nets
  abbrev pub ClausesWithin : List (List ℕ) → Type 0
  ClausesWithin cs = (c : List ℕ) → Memᴰ c cs → Below (2 * m + 1) c

  row_within : (cs : List (List ℕ)) → ClausesWithin cs → first_over m (literal_row cs) ≡ length (literal_row cs)
  unfolding first_over
  row_within [] h = rw row_nil
  row_within (c ∷ cs) h =
      rw (row_cons c cs) (clause_within c (pos 0 ∷ literal_row cs) (h c in_first) (within_more (pos 0) (literal_row cs) (omega arith) (row_within cs (λ d i. h d (Memᴰ.tail i)))))

  pub made_within : (cs : List (List ℕ)) → ClausesWithin cs → first_over m (made cs) ≡ length (made cs)
  unfolding made
  made_within cs h = row_within (simplified cs) (λ c i x k. h (simplified_has cs i).of (simplified_has cs i).listed x (kept_literal cs i k).0)

-- no test of the entries made holds
pub made_tests : (m : ℕ) (cs : List (List ℕ)) → ClausesWithin m cs → NoneHolds (entry_tests m (length (simplified cs)) (made cs))
made_tests m cs h = (
  le-ltb (first_over m (made cs)) (length (made cs)) (omega (arith, made_within m cs h)),
  (ap not (made_ended cs), (ap not (eq-eqb (zeros (made cs)) (length (simplified cs)) (made_zeros cs)), tt)),
)

-- How many entries there are

pub clause_few : (c : List ℕ) → length (clause_entries c) ≤ length c + 1
unfolding without_false
clause_few c =
    cases (is_left_out c) (λ e. rw (made_left_out c e) (omega arith))
    (λ e. rw (made_kept c e, length-append, length-map) (omega (arith, keep_length (λ x. not (eqb x 0)) c)))

pub and_few : (g : And) → length (made (and_clauses g)) ≤ 10
and_few g =
    rw (made_and g, length-append, length-append)
    (omega (arith, clause_few (negate g.output ∷ g.left ∷ []), clause_few (negate g.output ∷ g.right ∷ []), clause_few (g.output ∷ negate g.left ∷ negate g.right ∷ [])))

pub and_entries_few : (gs : List And) → length (and_entries gs) ≤ 10 * length gs
unfolding made literal_row simplified each keep
and_entries_few [] = omega arith
and_entries_few (g ∷ gs) = rw (and_entries_cons g gs, length-append) (omega (arith, and_few g, and_entries_few gs))

pub circuit_few : (k : Circuit) → length (entries_of k) ≤ 10 * length k.ands + 2
circuit_few k =
    rw (circuit_entries k, length-append) (omega (arith, and_entries_few k.ands, clause_few (k.output ∷ [])))

-- .. and clauses

gate_clauses : (gs : List And) → length (each gs and_clauses) ≡ 3 * length gs
unfolding each and_clauses
gate_clauses [] = refl
gate_clauses (g ∷ gs) = omega (arith, gate_clauses gs)

pub clauses_few : (k : Circuit) → length (circuit_clauses k) ≤ 3 * length k.ands + 1
unfolding circuit_clauses simplified
clauses_few k =
    rw (length-map _ without_false)
    (omega (arith, keep_length (λ c. not (is_left_out c)) (given_clauses k), length-append (each k.ands and_clauses) ((k.output ∷ []) ∷ []), gate_clauses k.ands))

-- The tests of a circuit's entries

-- the literals of an AND line are those of a circuit with m nets
pub record AndWithin (m : ℕ) (g : And) : Type 0 where
  pub output_within : g.output ≤ 2 * m + 1
  pub left_within : g.left ≤ 2 * m + 1
  pub right_within : g.right ≤ 2 * m + 1

-- the output and the literals of the AND lines are those of a circuit with so many nets
pub record LiteralsWithin (k : Circuit) : Type 0 where
  pub output_within : k.output ≤ 2 * k.nets + 1
  pub ands_within : (g : And) → Memᴰ g k.ands → AndWithin k.nets g

and_within : (m : ℕ) (g : And) → AndWithin m g → ClausesWithin m (and_clauses g)
and_within m g w =
    and_all g (Below (2 * m + 1)) (below_more (omega (arith, w.output_within)) (below_more w.left_within below_none))
    (below_more (omega (arith, w.output_within)) (below_more w.right_within below_none))
    (below_more w.output_within (below_more (omega (arith, w.left_within)) (below_more (omega (arith, w.right_within)) below_none)))

circuit_within : (k : Circuit) → LiteralsWithin k → ClausesWithin k.nets (given_clauses k)
circuit_within k w c i =
    ⊎_elim (λ p. each_elim k.ands and_clauses p (λ g q r. and_within k.nets g (w.ands_within g q) c r))
    (λ p. subst⁻¹ (Below (2 * k.nets + 1)) (Memᴰ.eq_of_singleton p) (below_more w.output_within below_none))
    (Memᴰ.append_cases (each k.ands and_clauses) i)

pub circuit-tests : (k : Circuit) → LiteralsWithin k → NoneHolds (entry_tests k.nets (length (circuit_clauses k)) (entries_of k))
unfolding circuit_clauses
circuit-tests k w = rw (circuit_made k) (made_tests k.nets (given_clauses k) (circuit_within k w))
