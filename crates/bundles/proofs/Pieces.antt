-- What holds of the body of every good bracket record from a place on holds of every body from there. Assumes nothing.
use Prim.Native.Nat.{ℕ, zero, suc, ◌+◌, ◌-◌, ◌≤◌}
use lib.Dec.{ltb}
use lib.ListN.{length}
use mathlib.Core.Bool.{true, false}
use mathlib.Core.List.Memᴰ
use mathlib.Core.List.{List, [], ◌∷◌, ◌++◌, Memᴰ}
use mathlib.Core.Logic.{⊎_elim}
use mathlib.Core.Path.{◌≡◌, sym, subst}
use native.Mathlib.Omega.{arith}
use Rattle.choice.proofs.Choice.{by_choice}
use Rattle.bracket.specs.Bracket.{length_at, next_at, good, Piece, body_at, walk, bodies_from}

module _ (p : List ℕ) (P : Piece → Type 0) where
  abbrev body_of : ℕ → Piece
  body_of at = record { at = at + 3; len = length_at p at - 2 }

  each_walk : (n at : ℕ) → ((here : ℕ) → at ≤ here → good p here ≡ true → P (body_of here))
      → (b : Piece) → Memᴰ b (walk (λ (here : ℕ) (rest : List Piece). body_at p here ++ rest) [] p n at) → P b
  unfolding walk
  each_walk zero at h b = λ (m : Memᴰ b []). absurd (Memᴰ.not-nil m)
  each_walk (suc n) at h b =
      let later = walk (λ (here : ℕ) (rest : List Piece). body_at p here ++ rest) [] p n (next_at p at) in
      by_choice Has (good p at) {a = body_at p at ++ later} {b = []}
      (λ (g : good p at ≡ true) (m : Memᴰ b (body_at p at ++ later)).
      ⊎_elim
      (by_choice Has (ltb 1 (length_at p at)) {a = body_of at ∷ []} {b = []}
      (λ (t : ltb 1 (length_at p at) ≡ true) (k : Memᴰ b (body_of at ∷ [])). subst P (sym (Memᴰ.eq_of_singleton k)) (h at (omega arith) g))
      (λ (t : ltb 1 (length_at p at) ≡ false) (k : Memᴰ b []). absurd (Memᴰ.not-nil k)))
      (each_walk n (next_at p at) (λ (here : ℕ) (l : next_at p at ≤ here). h here (omega arith)) b)
      (Memᴰ.append_cases (body_at p at) m))
      (λ (g : good p at ≡ false) (m : Memᴰ b []). absurd (Memᴰ.not-nil m))
    where
      Has : List Piece → Type 0
      Has l = Memᴰ b l → P b

  pub each_body : (from : ℕ) → ((here : ℕ) → from ≤ here → good p here ≡ true → P (body_of here)) → (b : Piece) → Memᴰ b (bodies_from p from) → P b
  unfolding bodies_from
  each_body from h = each_walk (length p) from h
