-- Bytes of a text, and stretches of it.
-- Assumes nothing.
use Rattle.std.specs.Prelude.{Bool, true, cond, ◌&&◌, ◌||◌, List, [], ◌∷◌, ℕ, suc, eqb, leb, length, drop}

abbrev pub tab : ℕ
tab = 9

abbrev pub lf : ℕ
lf = 10

abbrev pub cr : ℕ
cr = 13

abbrev pub space : ℕ
space = 32

abbrev pub comma : ℕ
comma = 44

abbrev pub minus : ℕ
minus = 45

-- the digit 0
abbrev pub nought : ℕ
nought = 48

-- the byte that starts a comment line
abbrev pub letter_c : ℕ
letter_c = 99

-- 'Blanks are space, tab, CR, LF.'
unfoldable pub is_blank : ℕ → Bool
is_blank b = eqb b space || (eqb b tab || (eqb b cr || eqb b lf))

-- what separates the words of the header
unfoldable pub is_gap : ℕ → Bool
is_gap b = eqb b space || eqb b tab

unfoldable pub is_digit : ℕ → Bool
is_digit b = leb nought b && leb b 57

-- every byte has the property
unfoldable pub every : (ℕ → Bool) → List ℕ → Bool
every f [] = true
every f (b ∷ l) = f b && every f l

-- the longest part at the front of which each byte, or other item, has the property, and what follows it
unfoldable pub front : {A : Type 0} → (A → Bool) → List A → List A
front f [] = []
front f (b ∷ l) = cond (f b) (b ∷ front f l) []

unfoldable pub behind : {A : Type 0} → (A → Bool) → List A → List A
behind f l = drop (length (front f l)) l

-- a stretch of the text, and the place of its first byte
pub record Stretch : Type 0 where
  pub place : ℕ
  pub bytes : List ℕ

-- one byte more in front of the first stretch
unfoldable pub widen : ℕ → ℕ → List Stretch → List Stretch
widen p b [] = record { place = p; bytes = b ∷ [] } ∷ []
widen p b (s ∷ ss) = record { place = p; bytes = b ∷ s.bytes } ∷ ss

-- the stretches between the bytes that have the property, of a text whose first byte is at place p
unfoldable pub split : (ℕ → Bool) → ℕ → List ℕ → List Stretch
split f p [] = record { place = p; bytes = [] } ∷ []
split f p (b ∷ l) = cond (f b) (record { place = p; bytes = [] } ∷ split f (suc p) l) (widen p b (split f (suc p) l))
