-- What a board counts, and what it keeps true.
use Rattle.std.specs.Prelude.{◌≡◌, ℕ, zero, suc, ◌+◌, ◌<◌, ◌≤◌, ◌^◌, List, [], ◌∷◌, length, not, ◌==◌, if◌then◌else◌, slice_get, slice_index, unwrap_or, true}
use Rattle.heco_schedules.specs.Tables.{passes}
use Rattle.heco_schedules.specs.Rising.{names}
use Rattle.heco_schedules.specs.Standings.{Wiring, Standing, IsWired, wire_count, operands, is_finished}
use Rattle.heco_schedules.specs.Events.{ready_gates}
use Rattle.heco_schedules.specs.Runs.{IsConsistent}

-- each gate reads wires that are there
pub record ReadsWires (inputs : ℕ) (reads : List (List ℕ)) : Type 0 where
  pub reach : (gate wire : ℕ) → gate < length reads → names (unwrap_or (slice_get reads gate) []) wire ≡ true → wire < inputs + length reads

abbrev pub times_in : List ℕ → ℕ → ℕ
times_in [] wire = 0
times_in (w ∷ ws) wire = (if w == wire then 1 else 0) + times_in ws wire

abbrev pub sum_below : (ℕ → ℕ) → ℕ → ℕ
sum_below f zero = 0
sum_below f (suc n) = sum_below f n + f n

-- how often a gate that is not finished reads the wire
unfoldable pub reads_left : Wiring → Standing → ℕ → ℕ → ℕ
reads_left c s wire gate = if passes (λ stage. not (is_finished stage)) (slice_get s.stages gate) then times_in (operands c gate) wire else 0

-- how often outputs name the wire, and gates that are not finished read it
unfoldable pub uses_of : Wiring → Standing → ℕ → ℕ
uses_of c s wire = times_in c.outputs wire + sum_below (reads_left c s wire) (length c.reads)

-- so few gates, outputs and workers that counts of 32 bits hold
pub record IsSmall (c : Wiring) (workers : ℕ) : Type 0 where
  pub gates : length c.reads < 2 ^ 28
  pub wires : c.inputs + length c.reads < 2 ^ 31
  pub outputs : length c.outputs < 2 ^ 30
  pub some : 0 < workers
  pub few : workers ≤ 4

pub record IsTallied (c : Wiring) (s : Standing) (uses : List ℕ) : Type 0 where
  pub count : length uses ≡ wire_count c
  pub each : (wire : ℕ) → wire < wire_count c → slice_index uses wire ≡ uses_of c s wire

-- a board's lists fit where its gates stand, and it has a place for each gate among the ready ones
pub record IsKept (c : Wiring) (s : Standing) (gates counts : List ℕ) (places : ℕ) : Type 0 where
  pub wired : IsWired c
  pub small : IsSmall c (length s.workers)
  pub consistent : IsConsistent c s
  pub ready : gates ≡ ready_gates c s
  pub uses : IsTallied c s counts
  pub room : length c.reads ≤ places
