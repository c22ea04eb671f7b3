-- The five lines.
use Rattle.std.specs.Prelude.{ℕ, List, ◌++◌, codes, decimal}
use Rattle.heco_circuit.specs.Bounds.{weights_of, wire_bounds}
use Rattle.heco_circuit.specs.Plans.{Plan as Circuit}
use Rattle.heco_written.specs.Bound.{greatest_of}

-- the output s has this value
abbrev pub value_line : ℕ → List ℕ
value_line v = codes "s = " ++ (decimal v ++ codes "\n")

-- the greatest bound of the noise of its wires
abbrev pub greatest_bound : Circuit → ℕ
greatest_bound c = greatest_of (wire_bounds c.preset (weights_of c.preset c.vectors) c.inputs c.gates)

-- the seed, the number of gates, their greatest bound, and twice the line of the output: from the execution in the clear, and decrypted
unfoldable pub summary : ℕ → ℕ → ℕ → List ℕ → List ℕ → List ℕ
summary seed gates bound plain decrypted =
    codes "dot of 512, seed " ++ (decimal seed ++ (codes "\ngates " ++ (decimal gates ++ (codes "\nbound " ++ (decimal bound
    ++ (codes "\nplain " ++ (plain ++ (codes "heco " ++ decrypted))))))))
