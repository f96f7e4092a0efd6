-- Laws on lists taken element by element (`map`, `flat_map`) and on lists of lists (`flatten`). Assumes nothing.
use mathlib.Core.List.Memᴰ
use mathlib.Core.List.{List, [], ◌∷◌, ◌++◌, append_assoc, map, map-append, flat_map, flatten, Memᴰ}
use mathlib.Core.Logic.{⊎_elim}
use mathlib.Core.Path.{◌≡◌, refl, sym, ap, ◌∙◌}

-- functions that agree on a list's elements
module _ {A B : Type 0} where
  pub map_same : (f g : A → B) (l : List A) → ((a : A) → Memᴰ a l → f a ≡ g a) → map f l ≡ map g l
  map_same f g [] h = refl
  map_same f g (a ∷ l) h = rw (h a (Memᴰ.head refl), map_same f g l (λ (b : A) (m : Memᴰ b l). h b (Memᴰ.tail m)))

  pub flat_same : (f g : A → List B) (l : List A) → ((a : A) → Memᴰ a l → f a ≡ g a) → flat_map f l ≡ flat_map g l
  unfolding flat_map
  flat_same f g [] h = refl
  flat_same f g (a ∷ l) h = rw (h a (Memᴰ.head refl), flat_same f g l (λ (b : A) (m : Memᴰ b l). h b (Memᴰ.tail m)))

-- lists joined
module _ {A B : Type 0} where
  -- what holds of each list's elements holds of those laid end to end
  pub flat_each : (P : B → Type 0) (f : A → List B) (l : List A) → ((a : A) → Memᴰ a l → (b : B) → Memᴰ b (f a) → P b)
      → (b : B) → Memᴰ b (flat_map f l) → P b
  unfolding flat_map
  flat_each P f [] h b m = absurd (Memᴰ.not-nil m)
  flat_each P f (x ∷ l) h b m =
      ⊎_elim (h x (Memᴰ.head refl) b) (flat_each P f l (λ (a : A) (k : Memᴰ a l). h a (Memᴰ.tail k)) b) (Memᴰ.append_cases (f x) m)

  pub flat_append : (f : A → List B) (a b : List A) → flat_map f (a ++ b) ≡ flat_map f a ++ flat_map f b
  unfolding flat_map
  flat_append f [] b = refl
  flat_append f (x ∷ a) b = ap (λ (t : List B). f x ++ t) (flat_append f a b) ∙ sym (append_assoc (f x) (flat_map f a) (flat_map f b))

pub flatten_append : {A : Type 0} (a b : List (List A)) → flatten (a ++ b) ≡ flatten a ++ flatten b
unfolding flatten
flatten_append [] b = refl
flatten_append {A = A} (x ∷ a) b = ap (λ (t : List A). x ++ t) (flatten_append a b) ∙ sym (append_assoc x (flatten a) (flatten b))

-- a function of each element of what is laid end to end, or before it is
module _ {A B C : Type 0} where
  pub map_flat : (g : B → C) (f : A → List B) (l : List A) → map g (flat_map f l) ≡ flat_map (λ (a : A). map g (f a)) l
  unfolding flat_map
  map_flat g f [] = refl
  map_flat g f (x ∷ l) = map-append g (f x) (flat_map f l) ∙ ap (λ (t : List C). map g (f x) ++ t) (map_flat g f l)

  pub flat_map_lem : (f : B → List C) (g : A → B) (l : List A) → flat_map f (map g l) ≡ flat_map (λ (a : A). f (g a)) l
  unfolding flat_map
  flat_map_lem f g [] = refl
  flat_map_lem f g (x ∷ l) = ap (λ (t : List C). f (g x) ++ t) (flat_map_lem f g l)
