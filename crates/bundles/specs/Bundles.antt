-- PTI payloads joined one after the other, and what splitting gives: 02's request 12.
use Rattle.std.specs.Prelude.{ℕ, ◌+◌, ◌<◌, eqb, length, get_or, take, drop, Bool, false, ◌&&◌, cond, ◌≡◌}
use mathlib.Core.List.{List, [], ◌∷◌, ◌++◌, map, flat_map, Memᴰ}
use Rattle.bracket.specs.Bracket.{length_at, Piece, walk, bodies}

-- 01: "each record is 0x5B, a length L, one skipped byte, a body of L - 2 bytes, 0x5D"; "L = 1 with 0x5D after it is passed over without a body". A good
-- bracket record by what stands between its L and its 0x5D: the skipped byte and the body, or nothing where L is 1
unfoldable pub bracket_of : List ℕ → List ℕ
bracket_of inner = 0x5B ∷ (length inner + 1) ∷ (inner ++ (0x5D ∷ []))

-- the bytes of its body, if it has one
unfoldable pub body_in : List ℕ → List (List ℕ)
body_in [] = []
body_in (skipped ∷ body) = body ∷ []

-- L is a byte, so that 254 bytes at most stand there, and a body has 253 at most (`made_bytes` of proofs/Made.antt)
abbrev pub Bytes : List ℕ → Type 0
Bytes inner = (length inner < 255) × ((x : ℕ) → Memᴰ x inner → x < 256)

-- 02: "consumed by good bracket records to its last byte": such records, one after the other, and nothing else
pub record Consumed (payload : List ℕ) : Type 0 where
  pub inners : List (List ℕ)
  pub made : payload ≡ flat_map bracket_of inners

-- the same as the splitter has it. How many bytes a bracket record takes: 0x5B, L, and L bytes more; and how many those take that it meets, one after the
-- other, up to the first bad one. A payload over 4 bytes is consumed exactly where they take all of it (`taken_all` of proofs/Made.antt, `all_taken` of Taken.antt)
abbrev pub size_at : List ℕ → ℕ → ℕ
size_at payload at = length_at payload at + 2

unfoldable pub taken : List ℕ → ℕ
taken payload = walk (λ (here rest : ℕ). size_at payload here + rest) 0 payload (length payload) 0

-- a body's bytes, and those of all the bodies that splitting gives
abbrev pub bytes_of : List ℕ → Piece → List ℕ
bytes_of payload b = take b.len (drop b.at payload)

unfoldable pub contents : List ℕ → List (List ℕ)
contents payload = map (bytes_of payload) (bodies payload)

-- a body further on
abbrev pub moved_by : ℕ → Piece → Piece
moved_by far b = record { at = far + b.at; len = b.len }

-- 02: "when both are longer than 4 bytes and the first is consumed by good bracket records to its last byte"
pub record Premises (p q : List ℕ) : Type 0 where
  pub first_long : 4 < length p
  pub consumed : Consumed p
  pub second_long : 4 < length q

-- 02: "splitting the joined payload gives the bodies of the first followed by those of the second": as bytes
abbrev pub Kept : List ℕ → List ℕ → Type 0
Kept p q = contents (p ++ q) ≡ contents p ++ contents q

-- and as places in the joined payload
abbrev pub KeptPlaces : List ℕ → List ℕ → Type 0
KeptPlaces p q = bodies (p ++ q) ≡ bodies p ++ map (moved_by (length p)) (bodies q)

-- 02: "Grouping three such payloads either way gives the same": each way is two joins on the premises, and gives the bodies of the three in order
pub record EitherWay (p q r : List ℕ) : Type 0 where
  pub left : Premises (p ++ q) r
  pub right : Premises p (q ++ r)
  pub left_kept : contents ((p ++ q) ++ r) ≡ contents p ++ (contents q ++ contents r)
  pub right_kept : contents (p ++ (q ++ r)) ≡ contents p ++ (contents q ++ contents r)
  pub same_places : bodies ((p ++ q) ++ r) ≡ bodies (p ++ (q ++ r))

-- any number of payloads, of which the joined one is a bundle (`flatten`): all but the last are consumed
unfoldable pub Bundle : List (List ℕ) → Type 0
Bundle [] = Unit
Bundle (p ∷ []) = Unit
Bundle (p ∷ (q ∷ ps)) = Consumed p × Bundle (q ∷ ps)

-- all are longer than 4 bytes
unfoldable pub AllLong : List (List ℕ) → Type 0
AllLong [] = Unit
AllLong (p ∷ ps) = (4 < length p) × AllLong ps

-- What a payload holds beside another. 01: "A payload of 4 bytes or fewer holds nothing"; so does a bracket record with an empty body, 5B 02 x 5D, while it is
-- alone, and beside other bytes it holds that body. Every other payload holds what it holds alone
unfoldable pub empty_record : List ℕ → Bool
empty_record p = eqb (length p) 4 && (eqb (get_or p 0 0) 0x5B && (eqb (get_or p 1 0) 2 && eqb (get_or p 3 0) 0x5D))

abbrev pub empty_body : Piece
empty_body = record { at = 3; len = 0 }

unfoldable pub beside : List ℕ → List ℕ → List Piece
beside p [] = bodies p
beside p (x ∷ q) = cond (empty_record p) (empty_body ∷ []) (bodies p)

-- neither of two is such a record beside other bytes
pub record NoneGains (p q : List ℕ) : Type 0 where
  pub first : 0 < length q → empty_record p ≡ false
  pub second : 0 < length p → empty_record q ≡ false

-- all that splitting the joined payload gives, with no premise on the lengths
abbrev pub Whole : List ℕ → List ℕ → Type 0
Whole p q = bodies (p ++ q) ≡ beside p q ++ map (moved_by (length p)) (beside q p)
