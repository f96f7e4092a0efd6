-- Laws on lines put into a buffer, field after field. Assumes nothing.
use Prim.Native.Nat.{ℕ, ◌+◌, ◌<◌}
use mathlib.Core.List.{List, [], ◌∷◌, ◌++◌, append_assoc, append-nil, map}
use mathlib.Core.Path.{◌≡◌, refl, sym, ap, ◌∙◌}
use lib.IntN.{ℤ}
use lib.ListN.{length, get_or, drop}
use mir.Syntax.{w8, w64}
use mir.Val.{to_z, of_z, SFits}
use mir.ValLaws.{to_z-of_z}
use Rattle.text.specs.Texts.{space, decimal_text, signed_text}
use Rattle.text.specs.Put.{Puts}
use Rattle.text.specs.declared.Out.{Out}
use Rattle.text.proofs.Signs.{still}
use Rattle.text.proofs.Puts.{joined, renamed, next_byte}
use Rattle.lines.specs.Lines.{spaced, Fields, lettered}

spaced_append : (a b : List (List ℕ)) → spaced (a ++ b) ≡ spaced a ++ spaced b
unfolding spaced
spaced_append [] b = refl
spaced_append (f ∷ a) b = ap (λ (t : List ℕ). (space ∷ f) ++ t) (spaced_append a b) ∙ sym (append_assoc (space ∷ f) (spaced a) (spaced b))

-- a space and a text are a field
pub one_field : (t : List ℕ) → (space ∷ []) ++ t ≡ spaced (t ∷ [])
unfolding spaced
one_field t = sym (append-nil (space ∷ t))

pub field : {t : List ℕ} {o₀ o₁ o₂ : Out} → Puts (space ∷ []) o₀ o₁ → Puts t o₁ o₂ → Fields (t ∷ []) o₀ o₂
field {t} p q = record { puts = renamed (one_field t) (joined p q) }

-- fields after fields
pub fields : {a b : List (List ℕ)} {o₀ o₁ o₂ : Out} → Fields a o₀ o₁ → Fields b o₁ o₂ → Fields (a ++ b) o₀ o₂
fields {a} {b} p q = record { puts = renamed (sym (spaced_append a b)) (joined p.puts q.puts) }

-- the fields of the numbers from a place on are that of the number there and those after it
pub next_field : (l : List ℕ) (i : ℕ) → i < length l
    → spaced (map decimal_text (drop i l)) ≡ spaced (decimal_text (get_or l i 0) ∷ []) ++ spaced (map decimal_text (drop (i + 1) l))
next_field l i h =
    ap (λ (k : List ℕ). spaced (map decimal_text k)) (next_byte l i h)
    ∙ spaced_append (decimal_text (get_or l i 0) ∷ []) (map decimal_text (drop (i + 1) l))

-- a letter and fields
pub letter : {x : ℕ} {a : List (List ℕ)} {o₀ o₁ o₂ : Out} → Puts (x ∷ []) o₀ o₁ → Fields a o₁ o₂ → Puts (lettered x a) o₀ o₂
letter p q = joined p q.puts

-- the same fields by another name
pub same_fields : {a b : List (List ℕ)} {o₀ o₁ : Out} → a ≡ b → Fields a o₀ o₁ → Fields b o₀ o₁
same_fields e p = record { puts = renamed (ap spaced e) p.puts }

-- a signed number that is kept as its bits
pub kept : (z : ℤ) → SFits w64 z → (signed_text (to_z w64 (of_z w64 z)) ∷ []) ≡ signed_text z ∷ []
kept z f = ap (λ (y : ℤ). signed_text y ∷ []) (to_z-of_z w64 z f)

-- one of 8 bits
pub narrow : {z x : ℤ} → SFits w8 x → z ≡ to_z w8 (of_z w8 x) → (signed_text (to_z w64 (of_z w64 z)) ∷ []) ≡ signed_text x ∷ []
narrow {x = x} f e = ap (λ (y : ℤ). signed_text (to_z w64 (of_z w64 y)) ∷ []) e ∙ ap (λ (y : ℤ). signed_text y ∷ []) (still {z = x} f)
