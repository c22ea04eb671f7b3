-- The forms of a line, as relations over its bytes.
use Rattle.std.specs.Prelude.{◌≡◌, ◌⊎◌, ℕ, ◌<◌, Bool, true, ◌&&◌, ◌||◌, ◌==◌, List, [], ◌∷◌, ◌++◌, length, nat_le}
use Rattle.std.specs.List.{list_all}
use Rattle.heco_nums.specs.Words.{is_word}

abbrev pub is_blank : ℕ → Bool
is_blank c = c == 32 || c == 9

abbrev pub is_digit : ℕ → Bool
is_digit c = nat_le 48 c && nat_le c 57

-- spaces and tabs alone
abbrev pub AreBlanks : List ℕ → Type 0
AreBlanks cs = list_all is_blank cs ≡ true

-- one or more digits
pub record IsNumber (digits : List ℕ) : Type 0 where
  pub some : 0 < length digits
  pub all : list_all is_digit digits ≡ true

-- a number may end before these bytes: there are none, or a blank is the first
abbrev pub may_follow : List ℕ → Bool
may_follow [] = true
may_follow (c ∷ cs) = is_blank c

-- numbers with one or more blanks between, and with any blanks before and behind; the numbers are given by their digits
pub data AreNumbers : List ℕ → List (List ℕ) → Type 0 where
  nothing : AreNumbers [] []
  blank : {c : ℕ} {cs : List ℕ} {numbers : List (List ℕ)} → is_blank c ≡ true → AreNumbers cs numbers → AreNumbers (c ∷ cs) numbers
  number : {digits cs : List ℕ} {numbers : List (List ℕ)} → IsNumber digits → may_follow cs ≡ true → AreNumbers cs numbers
      → AreNumbers (digits ++ cs) (digits ∷ numbers)

-- blanks, a word, blanks, `=`, and numbers
pub record IsAssignment (line name : List ℕ) (numbers : List (List ℕ)) : Type 0 where
  pub before : List ℕ
  pub between : List ℕ
  pub behind : List ℕ
  pub spelled : line ≡ before ++ (name ++ (between ++ 61 ∷ behind))
  pub blanks_before : AreBlanks before
  pub word : is_word name ≡ true
  pub blanks_between : AreBlanks between
  pub values : AreNumbers behind numbers

-- blanks, `#`, and any bytes
pub record IsComment (line : List ℕ) : Type 0 where
  pub before : List ℕ
  pub behind : List ℕ
  pub spelled : line ≡ before ++ 35 ∷ behind
  pub blanks_before : AreBlanks before

-- a line that says nothing
abbrev pub IsIdle : List ℕ → Type 0
IsIdle line = AreBlanks line ⊎ IsComment line
