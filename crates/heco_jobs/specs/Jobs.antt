-- What a command does: it reads its files in order, each judged before the next, may judge further what it has read, and then writes files and prints.
use Rattle.std.specs.Prelude.{ℕ, List}
use Rattle.heco_jobs.specs.Agents.{Agents}
use Rattle.heco_jobs.specs.declared.outcome.Refusal.{Refusal}
use Rattle.heco_jobs.specs.declared.product.Product.{Product}

pub data Job : Type 1 where
  -- the file word of this number: as what things its bytes may be read, how it is refused where they can be read as none, and what is done with the thing
  Read : (which : ℕ) (Thing : Type 0) → (List ℕ → Thing → Type 0) → (List ℕ → Refusal → Type 0) → (Thing → Job) → Job
  -- what was read already: what things may come of it, how it is refused where none may, and what is done with the thing
  Judge : (Thing : Type 0) → (Thing → Type 0) → (Refusal → Type 0) → (Thing → Job) → Job
  -- one of the products that are allowed, and how it leaves the agents
  Give : (Product → Agents → Type 0) → Job
