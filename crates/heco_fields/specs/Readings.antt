-- Reading a format from left to right. A fault is known by how many bytes are left where its field begins.
use Rattle.std.specs.Prelude.{◌≡◌, ℕ, ◌+◌, ◌-◌, ◌&&◌, ◌==◌, List, ◌++◌, length, take, drop, Result, Ok, Err, nat_le, if◌then◌else◌}
use Rattle.heco_fields.specs.Formats.{Format, Value, Field}
use Rattle.heco_fields.specs.declared.fault.Fault.{Fault}
use Rattle.heco_fields.specs.declared.fault.Fault.TheVariants.{Broken, Memory}

-- a value and the bytes after it, or the fault
abbrev pub Reading : Type 0 → Type 0
Reading A = Result (A × List ℕ) ℕ

infixl 10 ◌>>=◌
abbrev pub ◌>>=◌ : {A B : Type 0} → Result A ℕ → (A → Result B ℕ) → Result B ℕ
(Ok x) >>= f = f x
(Err left) >>= f = Err left

unfoldable pub reading : {A : Type 0} → Format A → List ℕ → Reading A
reading (Value x) bytes = Ok (x, bytes)
reading (Field w allowed f) bytes = if nat_le w (length bytes) && allowed (take w bytes) then reading (f (take w bytes)) (drop w bytes) else Err (length bytes)

-- the value of a whole file, or where its first broken field begins
abbrev pub judged : {A : Type 0} → List ℕ → List ℕ → Reading A → Result A ℕ
judged bytes beyond (Ok x) = if length x.1 + length beyond == 0 then Ok x.0 else Err (length bytes - length x.1)
judged bytes beyond (Err left) = Err (length bytes - left)

-- what a function returned, seen by view, is what reading gives, unless memory ran out
abbrev pub Fails : {Y : Type 0} → Fault → Result Y ℕ → Type 0
Fails Memory read = Unit {0}
Fails (Broken left) read = read ≡ Err left

abbrev pub Gives : {X Y : Type 0} → (X → Y) → Result X Fault → Result Y ℕ → Type 0
Gives view (Ok x) read = read ≡ Ok (view x)
Gives view (Err e) read = Fails e read

-- what was read before, and what is still read
abbrev pub with_front : {A : Type 0} → List A → Reading (List A) → Reading (List A)
with_front front read = read >>= λ x. Ok (front ++ x.0, x.1)

-- a fault that is no want of memory
abbrev pub IsAtField : Fault → Type 0
IsAtField Memory = ⊥
IsAtField (Broken left) = Unit {0}
