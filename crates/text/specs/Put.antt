-- A text put into a buffer from a place on.
use Rattle.std.specs.Prelude.{ℕ, ◌+◌, ltb, length, set, cond, List, [], ◌∷◌, ◌≡◌}
use Rattle.text.specs.declared.Out.{Out}

-- a buffer, and the place where its free part begins
pub record Filled : Type 0 where
  pub bytes : List ℕ
  pub place : ℕ

abbrev pub filled : List ℕ → ℕ → Filled
filled bytes place = record { bytes = bytes; place = place }

-- a byte at the free part's first place; where there is none it is dropped, and the place stays
abbrev pub with_byte : Filled → ℕ → Filled
with_byte f b =
    cond (ltb f.place (length f.bytes)) (filled (set f.bytes f.place b) (f.place + 1)) f

-- a text, byte after byte
unfoldable pub with_text : Filled → List ℕ → Filled
with_text f [] = f
with_text f (b ∷ bs) = with_text (with_byte f b) bs

-- the buffer and the place after a text
pub record Put (text before : List ℕ) (at : ℕ) (after : List ℕ) (r : ℕ) : Type 0 where
  pub puts : filled after r ≡ with_text (filled before at) text

-- the same of a lent buffer and its place before and after: it is the buffer that was lent
pub record Puts (text : List ℕ) (before after : Out) : Type 0 where
  pub put : Put text before.bytes.now before.at after.bytes.now after.at
  pub same : after.bytes.ghost_name ≡ before.bytes.ghost_name
