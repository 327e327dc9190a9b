-- Renamings of the literals, and clause lists that one takes to each other.
-- Assumes nothing.
use mathlib.Core.Path.{◌≡◌, refl, sym, ◌∙◌, ap, ap₂, subst, subst⁻¹}
use mathlib.Core.Logic.{◌⊎◌, inl, inr}
use mathlib.Core.List.Memᴰ
use mathlib.Core.List.{List, [], ◌∷◌, map, map-id}
use Prim.Native.Nat.{ℕ, ◌≤◌}
use Rattle.clauses.specs.Code.{negate, net}
use Rattle.clauses.specs.Clause.{Within, Same, Present, Included}
use Rattle.clauses.proofs.Lists.{mem_map, mem_of_map}
use Rattle.clauses.proofs.Codes.{net_negate, same_net}

-- ρ takes literals to literals, constants to themselves and inverses to inverses, and σ undoes it
pub record Renaming (ρ σ : ℕ → ℕ) : Type 0 where
  pub undo : (a : ℕ) → σ (ρ a) ≡ a
  pub redo : (a : ℕ) → ρ (σ a) ≡ a
  pub inverse : (a : ℕ) → ρ (negate a) ≡ negate (ρ a)
  pub zero_stays : ρ 0 ≡ 0

module _ (ρ σ : ℕ → ℕ) (ren : Renaming ρ σ) where
  pub renaming_injective : {a b : ℕ} → ρ a ≡ ρ b → a ≡ b
  renaming_injective {a} {b} e = sym (ren.undo a) ∙ ap σ e ∙ ren.undo b

  pub one_stays : ρ 1 ≡ 1
  one_stays = ren.inverse 0 ∙ ap negate ren.zero_stays

  -- no two nets go to one
  pub nets_injective : (a b : ℕ) → net (ρ a) ≡ net (ρ b) → net a ≡ net b
  nets_injective a b e = go (same_net (ρ a) (ρ b) e)
    where
      go : (ρ a ≡ ρ b) ⊎ (ρ a ≡ negate (ρ b)) → net a ≡ net b
      go (inl p) = ap net (renaming_injective p)
      go (inr p) = ap net (renaming_injective (p ∙ sym (ren.inverse b))) ∙ net_negate b

  pub renaming_back : Renaming σ ρ
  renaming_back =
      record {
        undo = ren.redo;
        redo = ren.undo;
        inverse = λ a. ap σ (ap negate (sym (ren.redo a)) ∙ sym (ren.inverse (σ a))) ∙ ren.undo (negate (σ a));
        zero_stays = ap σ (sym ren.zero_stays) ∙ ren.undo 0;
      }

  within_back : (c d : List ℕ) → Within (map ρ c) (map ρ d) → Within c d
  within_back c d h x k = let o = mem_of_map ρ d (h (ρ x) (mem_map ρ k)) in Memᴰ.cast (renaming_injective o.is) o.in_list

  pub same_back : (c d : List ℕ) → Same (map ρ c) (map ρ d) → Same c d
  same_back c d s = record { left = within_back c d s.left; right = within_back d c s.right }

  map_back : (c : List ℕ) → map ρ (map σ c) ≡ c
  map_back [] = refl
  map_back (x ∷ c) = ap₂ (λ (y : ℕ) (t : List ℕ). y ∷ t) (ren.redo x) (map_back c)

-- the clauses of ds that count are exactly the images of those of cs
pub record Image (ρ σ : ℕ → ℕ) (cs ds : List (List ℕ)) : Type 0 where
  pub ren : Renaming ρ σ
  pub forth : (c : List ℕ) → Present cs c → Present ds (map ρ c)
  pub back : (c : List ℕ) → Present ds (map ρ c) → Present cs c

-- and the other way round
pub image_back : {ρ σ : ℕ → ℕ} {cs ds : List (List ℕ)} → Image ρ σ cs ds → Image σ ρ ds cs
image_back {ρ} {σ} {cs} {ds} im =
    record {
      ren = renaming_back ρ σ im.ren;
      forth = λ c h. im.back (map σ c) (subst⁻¹ (Present ds) (map_back ρ σ im.ren c) h);
      back = λ c h. subst (Present ds) (map_back ρ σ im.ren c) (im.forth (map σ c) h);
    }

-- nets up to V stay so
pub record Inside (v : ℕ) (ρ : ℕ → ℕ) : Type 0 where
  pub stays : (a : ℕ) → net a ≤ v → net (ρ a) ≤ v

-- No name changed

pub same_names : Renaming (λ x. x) (λ x. x)
same_names = record { undo = λ a. refl; redo = λ a. refl; inverse = λ a. refl; zero_stays = refl }

-- the images are then the clauses themselves
pub images_included : {cs ds : List (List ℕ)} → Included cs ds → (c : List ℕ) → Present cs c → Present ds (map (λ x. x) c)
images_included {ds = ds} more c h = subst⁻¹ (Present ds) (map-id c) (more c h)
