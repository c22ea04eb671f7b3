-- What is drawn from a seed. The words are those of ChaCha20 with the seed as its key; how they are used is our own.
use Rattle.std.specs.Prelude.{ℕ, ◌+◌, ◌-◌, ◌*◌, ◌%◌, ◌^◌, ◌++◌, List, replicate, slice_set, nat_lt, if◌then◌else◌, ℤ, pos}
use Rattle.std.specs.List.{fold}
use Rattle.std.specs.Int.{w64, to_be_bytes}
use lib.IntN.{◌-ℤ◌, negsuc}
use Rattle.heco_nums.specs.Listed.{listed}
use Rattle.rand_chacha.specs.ChaCha.{ChaCha, word_at, key_of}

-- 24 zero bytes, and the seed as 8 bytes, the high one first
unfoldable pub seed_bytes : ℕ → List ℕ
seed_bytes seed = replicate 24 0 ++ to_be_bytes w64 seed

-- the generator at the start of a stream of a seed
unfoldable pub start : ℕ → ℕ → ChaCha
start seed stream = record { key = key_of (seed_bytes seed); stream = stream; word_pos = 0 }

-- the generator so many words on
abbrev pub ahead : ChaCha → ℕ → ChaCha
ahead g k = record { key = g.key; stream = g.stream; word_pos = g.word_pos + k }

-- the word so many words on: a block of ChaCha20 has 10 double rounds
unfoldable pub word : ChaCha → ℕ → ℕ
word g i = word_at 10 g.key g.stream (g.word_pos + i)

-- a place below n takes -1 where the word has its high bit, and else 1; what stood there is replaced
abbrev pub placed : ℕ → List ℤ → ℕ → List ℤ
placed n s x = slice_set s (x % n) (if nat_lt x (2 ^ 31) then pos 1 else negsuc 0)

-- n places of 0, of which h words in turn choose a place
unfoldable pub sparse : ChaCha → ℕ → ℕ → List ℤ
sparse g n h = fold (placed n) (replicate n (pos 0)) (listed h (word g))

-- a number below 2^58: 26 bits of one word, and the next word
abbrev pub long_word : ℕ → ℕ → ℕ
long_word high low = high % 2 ^ 26 * 2 ^ 32 + low

unfoldable pub long_words : ChaCha → ℕ → List ℕ
long_words g n = listed n (λ i. long_word (word g (2 * i)) (word g (2 * i + 1)))

-- from -b to b
abbrev pub error : ℕ → ℕ → ℤ
error b x = pos (x % (2 * b + 1)) -ℤ pos b

unfoldable pub errors : ChaCha → ℕ → ℕ → List ℤ
errors g n b = listed n (λ i. error b (word g i))

-- the first words modulo t
unfoldable pub values : ChaCha → ℕ → ℕ → List ℕ
values g t count = listed count (λ i. word g i % t)
