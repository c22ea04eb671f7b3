use Rattle.std.proofs.Common.{◌≡◌, ◌++◌, take, drop}
use Rattle.heco_texts.specs.Kinds.{name_front, name_back}
use Rattle.heco_texts.proofs.bytes.cut_name.Given as goal

abbrev pub invariant-loop-i : goal.invariant-loop-i
invariant-loop-i l = record {
  front : name_front l.text ≡ take l.i l.text ++ name_front (drop l.i l.text);
  back : name_back l.text ≡ name_back (drop l.i l.text);
}
