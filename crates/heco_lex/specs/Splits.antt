-- The split of a text into its longest tokens, with blanks and comments between.
use Rattle.std.specs.Prelude.{◌≡◌, ℕ, ◌+◌, ◌-◌, ◌<◌, ◌≤◌, Bool, true, false, List, [], ◌∷◌, Some, None, ◌==◌, ◌&&◌, if◌then◌else◌, take, drop, length}
use Rattle.heco_lex.specs.Kinds.{is_blank, kind_of}
use Rattle.heco_lex.specs.declared.token.Token.{Token}
use Rattle.heco_lex.specs.declared.token.TokenKind.{TokenKind}

-- the first n bytes are a token of the kind, and no longer front is a token
pub record IsLongest (text : List ℕ) (n : ℕ) (kind : TokenKind) : Type 0 where
  pub within : n ≤ length text
  pub is_token : kind_of (take n text) ≡ Some kind
  pub longest : (m : ℕ) → n < m → m ≤ length text → kind_of (take m text) ≡ None

abbrev pub begins_comment : List ℕ → Bool
begins_comment [] = false
begins_comment (c ∷ []) = false
begins_comment (c ∷ d ∷ cs) = c == 47 && d == 47

-- how many bytes stand before the next line end, or before the end
abbrev pub line_rest : List ℕ → ℕ
line_rest [] = 0
line_rest (c ∷ cs) = if c == 10 then 0 else 1 + line_rest cs

abbrev pub token_at : ℕ → ℕ → TokenKind → Token
token_at at n is = record { kind = is; from = at; to = at + n }

-- from this offset on stand these bytes, which split into these tokens
pub data Splits : ℕ → List ℕ → List Token → Type 0 where
  nothing : {at : ℕ} → Splits at [] []
  blank : {at c : ℕ} {cs : List ℕ} {ts : List Token} → is_blank c ≡ true → Splits (at + 1) cs ts → Splits at (c ∷ cs) ts
  comment : {at : ℕ} {cs : List ℕ} {ts : List Token} → begins_comment cs ≡ true → Splits (at + line_rest cs) (drop (line_rest cs) cs) ts → Splits at cs ts
  token : {at n : ℕ} {cs : List ℕ} {ts : List Token} {kind : TokenKind} → IsLongest cs n kind → Splits (at + n) (drop n cs) ts
      → Splits at cs (token_at at n kind ∷ ts)

-- a byte that is no blank stands here, and neither a comment nor a token begins with it
pub record IsBad (text : List ℕ) : Type 0 where
  pub some : 0 < length text
  pub no_blank : (c : ℕ) (cs : List ℕ) → text ≡ c ∷ cs → is_blank c ≡ false
  pub no_comment : begins_comment text ≡ false
  pub no_token : (m : ℕ) → kind_of (take m text) ≡ None

-- from this offset on stand these bytes, and the first that begins no token has the last offset
pub data BadAt : ℕ → List ℕ → ℕ → Type 0 where
  here : {at : ℕ} {cs : List ℕ} → IsBad cs → BadAt at cs at
  after_blank : {at c bad : ℕ} {cs : List ℕ} → is_blank c ≡ true → BadAt (at + 1) cs bad → BadAt at (c ∷ cs) bad
  after_comment : {at bad : ℕ} {cs : List ℕ} → begins_comment cs ≡ true → BadAt (at + line_rest cs) (drop (line_rest cs) cs) bad → BadAt at cs bad
  after_token : {at n bad : ℕ} {cs : List ℕ} {kind : TokenKind} → IsLongest cs n kind → BadAt (at + n) (drop n cs) bad → BadAt at cs bad

-- the bytes of the token
abbrev pub slice_of : List ℕ → Token → List ℕ
slice_of text t = take (t.to - t.from) (drop t.from text)

-- the tokens stand one behind another, from the offset on, and each has the kind of its bytes
abbrev pub AreSpans : List ℕ → ℕ → List Token → Type 0
AreSpans text at [] = Unit {0}
AreSpans text at (t ∷ ts) = (at ≤ t.from) × (t.from < t.to) × (t.to ≤ length text) × (kind_of (slice_of text t) ≡ Some t.kind) × AreSpans text t.to ts
