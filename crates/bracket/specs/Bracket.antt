-- The bracket records of a PTI payload, and the bodies in them.
use Rattle.std.specs.Prelude.{ℕ, zero, suc, ◌+◌, ◌-◌, eqb, ltb, length, get_or, Bool, ◌&&◌, cond, List, [], ◌∷◌, ◌++◌, Option, None, Some}
use Rattle.bracket.specs.declared.Body.{Body}

-- 01: "each record is 0x5B, a length L, one skipped byte, a body of L - 2 bytes, 0x5D". L of the bracket record at a place; the place of
-- its 0x5D; the place after it
abbrev pub length_at : List ℕ → ℕ → ℕ
length_at payload at = get_or payload (at + 1) 0

abbrev pub close_at : List ℕ → ℕ → ℕ
close_at payload at = at + 1 + length_at payload at

abbrev pub next_at : List ℕ → ℕ → ℕ
next_at payload at = close_at payload at + 1

-- whether a good bracket record stands at a place. 01: "A payload of 4 bytes or fewer holds nothing"; "L = 0 is bad"
unfoldable pub good : List ℕ → ℕ → Bool
good payload at =
    ltb 4 (length payload)
    && (ltb (close_at payload at) (length payload)
    && (eqb (get_or payload at 0) 0x5B && (eqb (get_or payload (close_at payload at) 0) 0x5D && ltb 0 (length_at payload at))))

-- L of the good bracket record at a place, none where none stands there
abbrev pub good_length : List ℕ → ℕ → Option ℕ
good_length payload at = cond (good payload at) (Some (length_at payload at)) None

-- a body's place in the payload, and its length
pub record Piece : Type 0 where
  pub at : ℕ
  pub len : ℕ

-- the body of a good bracket record, if it has one. 01: "L = 1 with 0x5D after it is passed over without a body"
abbrev pub body_at : List ℕ → ℕ → List Piece
body_at payload at = cond (ltb 1 (length_at payload at)) (record { at = at + 3; len = length_at payload at - 2 } ∷ []) []

-- what the bracket records from a place on come to, n of them at most: `each` says what the one at a place makes of what comes after it, and
-- the first bad one ends the walk. 01: "Splitting stops at the first bad record"
unfoldable pub walk : {A : Type 0} → (ℕ → A → A) → A → List ℕ → ℕ → ℕ → A
walk each end payload zero at = end
walk each end payload (suc n) at = cond (good payload at) (each at (walk each end payload n (next_at payload at))) end

-- the bodies from a place on; a payload has no more bracket records than bytes, so more turns change nothing (`enough` of proofs/Walks.antt)
unfoldable pub bodies_from : List ℕ → ℕ → List Piece
bodies_from payload at = walk (λ (here : ℕ) (rest : List Piece). body_at payload here ++ rest) [] payload (length payload) at

-- the bodies of a payload
abbrev pub bodies : List ℕ → List Piece
bodies payload = bodies_from payload 0

-- the next body from a place on, and the place after its bracket record: a bracket record gives its body, or what comes after it
abbrev pub step_at : List ℕ → ℕ → Option Body → Option Body
step_at payload at rest =
    cond (ltb 1 (length_at payload at)) (Some (record { at = at + 3; len = length_at payload at - 2; next = next_at payload at })) rest

unfoldable pub next_record : List ℕ → ℕ → Option Body
next_record payload at = walk (step_at payload) None payload (length payload) at

-- what a caller meets who takes steps, n at most, each from the place that the last one named
abbrev pub met : Option Body → (ℕ → List Piece) → List Piece
met (Some b) rest = record { at = b.at; len = b.len } ∷ rest b.next
met None rest = []

unfoldable pub steps : List ℕ → ℕ → ℕ → List Piece
steps payload zero at = []
steps payload (suc n) at = met (next_record payload at) (λ (next : ℕ). steps payload n next)
