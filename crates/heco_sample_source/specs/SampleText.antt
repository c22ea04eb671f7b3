-- The source that `sample` runs: the dot product of two lists of 512 numbers.
use Rattle.std.specs.Prelude.{ℕ, List, codes}

unfoldable pub sample_text : List ℕ
sample_text = codes "params q512;\nfn dot(in a[512], in b[512], out s) { for i in 0..512 { s += a[i]*b[i]; } }\n"
