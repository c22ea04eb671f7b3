-- A file as a list of fields, and its first broken field.
use Rattle.std.specs.Prelude.{◌≡◌, ℕ, zero, suc, ◌+◌, ◌<◌, Bool, true, false, ◌&&◌, ◌==◌, List, [], ◌∷◌, ◌++◌, length, take}
use Rattle.std.specs.Prelude.{Option, Some, None, ◌⊎◌, nat_le, if◌then◌else◌, ℤ}
use Rattle.std.specs.Int.{Width, w8, byte_len, from_be_bytes, to_be_bytes, cast_signed}
use Rattle.std.specs.Str.{bytes_eq}
use Rattle.heco_fields.specs.declared.header.Header.{Header}

-- a value that has been spelled whole, or a field: its width, which bytes are allowed there, and by its bytes what follows
pub data Format (A : Type 0) : Type 0 where
  Value : A → Format A
  Field : (width : ℕ) → (List ℕ → Bool) → (List ℕ → Format A) → Format A

infixl 10 ◌>>=◌
unfoldable pub ◌>>=◌ : {A B : Type 0} → Format A → (A → Format B) → Format B
(Value x) >>= k = k x
(Field w allowed f) >>= k = Field w allowed (λ b. f b >>= k)

-- a number with the high byte first
abbrev pub number : Width → (ℕ → Bool) → Format ℕ
number w allowed = Field (byte_len w) (λ b. allowed (from_be_bytes w b)) (λ b. Value (from_be_bytes w b))

-- a byte in two's complement
abbrev pub signed_byte : (ℤ → Bool) → Format ℤ
signed_byte allowed = Field 1 (λ b. allowed (cast_signed w8 (from_be_bytes w8 b))) (λ b. Value (cast_signed w8 (from_be_bytes w8 b)))

-- so many values, each by what stands before it
unfoldable pub many : {S A : Type 0} → (S → Format A) → (S → A → S) → ℕ → S → Format (List A)
many format next zero s = Value []
many format next (suc n) s = do
  x ← format s
  xs ← many format next n (next s x)
  Value (x ∷ xs)

-- what is still to come after these fields, each whole and allowed
unfoldable pub after : {A : Type 0} → Format A → List (List ℕ) → Option (Format A)
after format [] = Some format
after (Value x) (b ∷ fields) = None
after (Field w allowed f) (b ∷ fields) = if (length b == w) && allowed b then after (f b) fields else None

abbrev pub joined : List (List ℕ) → List ℕ
joined [] = []
joined (b ∷ fields) = b ++ joined fields

-- these fields spell the value
abbrev pub IsSpelledBy : {A : Type 0} → Format A → List (List ℕ) → A → Type 0
IsSpelledBy format fields x = after format fields ≡ Some (Value x)

-- the next field ends past the bytes or isn't allowed, or bytes stand after the last one
abbrev pub IsBroken : {A : Type 0} → Format A → List ℕ → List ℕ → Type 0
IsBroken (Value x) rest beyond = 0 < length rest + length beyond
IsBroken (Field w allowed f) rest beyond = (length rest < w) ⊎ (allowed (take w rest) ≡ false)

-- The first broken field begins there. The bytes beyond hold no field.
pub record BreaksAt {A : Type 0} (format : Format A) (bytes beyond : List ℕ) (at : ℕ) : Type 0 where
  pub fields : List (List ℕ)
  pub rest : List ℕ
  pub next : Format A
  pub parts : bytes ≡ joined fields ++ rest
  pub place : at ≡ length (joined fields)
  pub taken : after format fields ≡ Some next
  pub broken : IsBroken next rest beyond

-- a number between these, both included
abbrev pub within : Width → ℕ → ℕ → Format ℕ
within w low high = number w (λ n. nat_le low n && nat_le n high)

-- these very bytes
abbrev pub fixed : List ℕ → Format (List ℕ)
fixed text = Field (length text) (λ b. bytes_eq b text) (λ b. Value b)

-- any number
abbrev pub any : Width → Format ℕ
any w = number w (λ n. true)

-- the magic, a version from 1 to the newest, and the number of a preset
unfoldable pub versioned : ℕ → List ℕ → Format Header
versioned newest magic = do
  text ← fixed magic
  version ← within w8 1 newest
  preset ← within w8 1 5
  Value (record { version = version; preset = preset })

abbrev pub versioned_text : List ℕ → Header → List ℕ
versioned_text magic h = magic ++ (to_be_bytes w8 h.version ++ to_be_bytes w8 h.preset)

-- of a file that has version 1 alone: the number of its preset
unfoldable pub header : List ℕ → Format ℕ
header magic = do
  h ← versioned 1 magic
  Value h.preset

abbrev pub header_text : List ℕ → ℕ → List ℕ
header_text magic id = versioned_text magic (record { version = 1; preset = id })
