-- A product that prints, and one that stores, as what a job gives.
use Rattle.std.proofs.Common.{◌≡◌, ℕ, List, [], map, true, false, Ok, refl}
use Rattle.heco_jobs.specs.declared.product.Planned.{Planned}
use Rattle.heco_jobs.specs.declared.product.Product.{Product}
use Rattle.heco_jobs.specs.Agents.{Agents, asking_none}
use Rattle.heco_jobs.specs.Jobs.{Give}
use Rattle.heco_jobs.specs.Plans.{Plan}
use Rattle.heco_jobs.specs.Products.{Prints, Stores}
use Rattle.heco_jobs.specs.Stages.{IsDecided}
use Rattle.heco_jobs.proofs.PlanLaws.{fits_print, fits_store}
use Rattle.heco_jobs.proofs.StageLaws.{given}

pub gives_print : (plan : Plan) (text : List ℕ) (agents : Agents) (p : Product) → plan.writes ≡ [] → plan.prints ≡ true → Prints text p → IsDecided plan (Give (asking_none agents (Prints text))) agents (Ok p)
gives_print plan text agents p none some h = given plan (asking_none agents (Prints text)) agents (Ok p) (λ q k. fits_print plan text q none some k.0) (h, refl)

pub gives_store : (plan : Plan) (files : List Planned) (agents : Agents) (p : Product) → plan.writes ≡ map (λ w. w.which) files → plan.prints ≡ false → Stores files p
    → IsDecided plan (Give (asking_none agents (Stores files))) agents (Ok p)
gives_store plan files agents p these none h = given plan (asking_none agents (Stores files)) agents (Ok p) (λ q k. fits_store plan files q these none k.0) (h, refl)
