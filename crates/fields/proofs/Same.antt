-- The fields here are those of a list's lines. Assumes nothing.
use Prim.Native.Nat.{ℕ, zero, suc, ◌+◌, ◌<◌}
use lib.ListN.{drop}
use mathlib.Core.List.{List, [], ◌∷◌, ◌++◌, append_assoc, append-nil, map}
use mathlib.Core.Path.{◌≡◌, refl, ap}
use native.Mathlib.Omega.{arith}
use Rattle.lines.specs.Lines.{spaced, line_text, row_fields, lettered as lettered_fields}
use Rattle.names.specs.Names.{mpdu_text}
use Rattle.rows.specs.declared.Row.{Row}
use Rattle.speed.specs.Chart.{row_for}
use Rattle.speed.specs.Speed.{speed_for}
use Rattle.text.specs.Texts.{space, decimal_text}
use Rattle.fields.specs.Fields.{side_letter, field, signed_field, fields_of, lettered, line_of, origin_fields, radio_fields, frame_fields}

pub field_is : (n : ℕ) → spaced (decimal_text n ∷ []) ≡ field n
unfolding spaced field
field_is n = append-nil (space ∷ decimal_text n)

pub signed_is : (t : List ℕ) → spaced (t ∷ []) ≡ (space ∷ []) ++ t
unfolding spaced
signed_is t = append-nil (space ∷ t)

pub fields_are : (ns : List ℕ) → spaced (map decimal_text ns) ≡ fields_of ns
unfolding spaced fields_of field
fields_are [] = refl
fields_are (n ∷ ns) = ap (λ (t : List ℕ). (space ∷ decimal_text n) ++ t) (fields_are ns)

pub line_is : (letter : ℕ) (ns : List ℕ) → line_text letter (map decimal_text ns) ≡ line_of letter ns
unfolding line_text line_of lettered
line_is letter ns = ap (λ (t : List ℕ). (letter ∷ t) ++ (0x0A ∷ [])) (fields_are ns)

-- a row's letter and fields, its record's kind and its MPDU
shape : (f p q r s gap d g c v x b m l k t : List ℕ)
    → ((f ++ (p ++ (q ++ (r ++ (s ++ ((gap ++ d) ++ (g ++ (c ++ (v ++ (x ++ (b ++ (m ++ (l ++ []))))))))))))) ++ (k ++ [])) ++ t
    ≡ ((f ++ (p ++ (q ++ []))) ++ r ++ s ++ gap) ++ ((d ++ (g ++ (c ++ (v ++ [])))) ++ x ++ (b ++ (m ++ (l ++ (k ++ []))))) ++ t
shape f p q r s gap d g c v x b m l k t = simp (append_assoc, append-nil)

pub frame_is : (kind : ℕ) (r : Row) (mpdu : List ℕ)
    → (lettered_fields 0x46 (row_fields r) ++ spaced (decimal_text kind ∷ [])) ++ mpdu_text mpdu ≡ frame_fields kind r mpdu
unfolding spaced field signed_field fields_of lettered origin_fields radio_fields
frame_is kind r mpdu =
    shape (0x46 ∷ []) (field r.«record») (field r.position) (signed_field r.millis) (signed_field r.gap) (space ∷ []) (side_letter r.direction ∷ [])
    (field r.region) (field r.channel) (field r.speed) (signed_field r.rssi) (field r.beam_count) (field r.mpdu) (field r.mpdu_len) (field kind)
    (mpdu_text mpdu)

-- the rates from a channel on are that of the channel and those after it
pub next_rate : (region i : ℕ) → i < 4 → fields_of (drop i (row_for region)) ≡ field (speed_for i region) ++ fields_of (drop (i + 1) (row_for region))
unfolding fields_of
next_rate region zero h = refl
next_rate region (suc zero) h = refl
next_rate region (suc (suc zero)) h = refl
next_rate region (suc (suc (suc zero))) h = refl
next_rate region (suc (suc (suc (suc n)))) h = absurd (omega arith)
