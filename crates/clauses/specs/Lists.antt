-- Lists: tests and lists that are computed from a list.
-- Assumes nothing.
use Rattle.std.specs.Prelude.{Bool, true, false, List, [], ◌∷◌, ◌++◌, map, ℕ, zero, suc, eqb}

-- some element passes the test
unfoldable pub any : {A : Type 0} → (A → Bool) → List A → Bool
any f [] = false
any f (x ∷ xs) = elim (f x) [ true ↦ true | false ↦ any f xs ]

-- every element passes the test
unfoldable pub all : {A : Type 0} → (A → Bool) → List A → Bool
all f [] = true
all f (x ∷ xs) = elim (f x) [ true ↦ all f xs | false ↦ false ]

-- the elements that pass the test
unfoldable pub keep : {A : Type 0} → (A → Bool) → List A → List A
keep f [] = []
keep f (x ∷ xs) = elim (f x) [ true ↦ x ∷ keep f xs | false ↦ keep f xs ]

-- what f makes of each element, one after the other
unfoldable pub each : {A B : Type 0} → List A → (A → List B) → List B
each [] f = []
each (x ∷ xs) f = f x ++ each xs f

-- one list, then the other
unfoldable pub also : {A : Type 0} → List A → List A → List A
also xs ys = xs ++ ys

-- the list where the test has passed, else none of it
unfoldable pub only : {A : Type 0} → Bool → List A → List A
only true xs = xs
only false xs = []

-- n numbers from a on
unfoldable pub from : ℕ → ℕ → List ℕ
from a zero = []
from a (suc n) = a ∷ from (suc a) n

-- whether two lists are equal
unfoldable pub same_list : List ℕ → List ℕ → Bool
same_list [] [] = true
same_list [] (y ∷ ys) = false
same_list (x ∷ xs) [] = false
same_list (x ∷ xs) (y ∷ ys) = elim (eqb x y) [ true ↦ same_list xs ys | false ↦ false ]

-- ys is xs without one x
pub data Pick (x : ℕ) : List ℕ → List ℕ → Type 0 where
  first : {xs : List ℕ} → Pick x (x ∷ xs) xs
  later : {y : ℕ} {xs ys : List ℕ} → Pick x xs ys → Pick x (y ∷ xs) (y ∷ ys)

-- each element, with the list without it
unfoldable pub picks : List ℕ → List (ℕ × List ℕ)
picks [] = []
picks (x ∷ xs) = (x, xs) ∷ map (λ (p : ℕ × List ℕ). (p.0, x ∷ p.1)) (picks xs)

-- k elements of the list, in its order, in every way
unfoldable pub choose : ℕ → List ℕ → List (List ℕ)
choose zero ns = [] ∷ []
choose (suc k) [] = []
choose (suc k) (n ∷ ns) = map (λ c. n ∷ c) (choose k ns) ++ choose (suc k) ns
