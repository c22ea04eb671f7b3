use Rattle.std.specs.Prelude.{◌≡◌, ℕ, List, [], ◌∷◌, Option, Some, None}
use Rattle.heco_written.specs.ScalarTerm.{ScalarTerm}
use Rattle.heco_written.specs.WrittenForm.{Written, written}
use Rattle.heco_ir.specs.declared.vector.VNode.{VNode}
use Rattle.heco_batch.specs.declared.home.NodeSum.{NodeSum}
use Rattle.heco_batch.specs.declared.written.NodeWritten.{NodeWritten}
use Rattle.heco_batch.specs.inside.Homes.{HomeIs, SumIs}

-- the members are those of the sum, or the home alone
abbrev pub MembersAre : List VNode → ℕ → ℕ → Option NodeSum → Written → Type 0
MembersAre nodes slots modulus None f = f.members ≡ f.home ∷ []
MembersAre nodes slots modulus (Some s) f = SumIs nodes slots modulus s f.members

-- what is kept of a node is the written form of its term
pub record WrittenIs (nodes : List VNode) (slots modulus : ℕ) (d : NodeWritten) (x : ScalarTerm) : Type 0 where
  pub home_is : HomeIs nodes slots modulus d.home (written modulus slots x).home
  pub members_are : MembersAre nodes slots modulus d.members (written modulus slots x)
