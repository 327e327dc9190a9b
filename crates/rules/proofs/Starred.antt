-- The starred lists: their answers, and that their nets are from 1 to V, computed.
-- Assumes nothing.
use mathlib.Core.Path.{◌≡◌, refl, sym, ◌∙◌, ap}
use mathlib.Core.Bool.{true}
use mathlib.Core.List.{List, ◌∷◌, map, Memᴰ}
use Prim.Native.Nat.{suc}
use Rattle.clauses.specs.Lists.{any, all, keep, each, also, only, from, same_list, picks, choose}
use Rattle.clauses.specs.Listing.{mem, within, same_set, tautology, present, literals, clause_sets, Fits, fits}
use Rattle.clauses.proofs.Lists.{all_have}
use Rattle.clauses.proofs.Clauses.{fits_is}
use Rattle.clauses.specs.Sign.{is_inverse}
use Rattle.gates.specs.Listing.{ands, signings, xor_clauses, literals_of, is_then, is_else, ites}
use Rattle.gates.specs.Count.{and_count, xors, xor_count, is_plain, ite_count}
use Rattle.clauses.specs.Code.{nets_of}
use Rattle.rules.specs.Answer.{lead_of, own}
use Rattle.rules.specs.Compute.{parities, by_clause, by_and, covers, by_ands, by_xor, by_xors, by_ite, by_ites, gates_of, alone_and_paired, conclusions, replace, join_leads, join_all, same_lead, round, run, closed, tally, answer}
use Rattle.rules.specs.Starred.{Starred, starred}

table_computed : map (λ (s : Starred). answer s.nets s.clauses (suc s.nets)) starred ≡ map (λ (s : Starred). s.result) starred
unfolding any all keep each also only from same_list picks choose mem within same_set tautology present literals clause_sets is_inverse ands signings xor_clauses literals_of is_then is_else ites and_count nets_of xors xor_count is_plain ite_count lead_of own parities by_clause by_and covers by_ands by_xor by_xors by_ite by_ites gates_of alone_and_paired conclusions replace join_leads join_all same_lead round run closed tally answer
table_computed = refl

table_fits : all (λ (s : Starred). fits s.nets s.clauses) starred ≡ true
unfolding all fits
table_fits = refl

-- where two functions agree on a list, they agree on each of its elements
map_agree : {A B : Type 0} (f g : A → B) {x : A} (l : List A) → map f l ≡ map g l → Memᴰ x l → f x ≡ g x
map_agree {A = A} {B = B} f g mathlib.Core.List.[] e x3 = elim x3 [ ]
map_agree f g (y ∷ l) e (Memᴰ.head q) = let z : f y ≡ g y = cc in ap f q ∙ z ∙ sym (ap g q)
map_agree f g (y ∷ l) e (Memᴰ.tail k) = let z : map f l ≡ map g l = cc in map_agree f g l z k

pub starred_computed : (s : Starred) → Memᴰ s starred → answer s.nets s.clauses (suc s.nets) ≡ s.result
starred_computed s k = map_agree (λ (s : Starred). answer s.nets s.clauses (suc s.nets)) (λ (s : Starred). s.result) starred table_computed k

pub starred_fits : (s : Starred) → Memᴰ s starred → Fits s.nets s.clauses
starred_fits s k = fits_is s.nets s.clauses (all_have (λ (s : Starred). fits s.nets s.clauses) starred table_fits s k)
