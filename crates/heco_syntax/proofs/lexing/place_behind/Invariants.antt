use Rattle.std.proofs.Common.{◌≡◌, ◌+◌, ◌-◌, ◌≤◌, drop}
use Rattle.std.specs.Prelude.{count_by, ◌==◌}
use Rattle.heco_lex.specs.Places.{since_line_end}
use Rattle.heco_syntax.proofs.lexing.place_behind.Given as goal

abbrev pub invariant-loop-byte : goal.invariant-loop-byte
invariant-loop-byte l = (l.line + count_by (λ c. c == 10) (drop l.byte-index l.bytes) ≡ l.fn.at.line + count_by (λ c. c == 10) l.bytes)
    × (since_line_end (l.col - 1) (drop l.byte-index l.bytes) ≡ since_line_end (l.fn.at.col - 1) l.bytes)
    × (l.line ≤ l.fn.at.line + l.byte-index) × (1 ≤ l.col) × (l.col ≤ l.fn.at.col + l.byte-index)
