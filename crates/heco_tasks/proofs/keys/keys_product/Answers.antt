use Rattle.std.proofs.Common.{◌≡◌, ◌∙◌, ap, subst}
use Rattle.std.specs.Prelude.{IfOk}
use Rattle.heco_key_files.specs.KeyFiles.{made_key, eval_text, secret_text, lists_of as eval_lists_of}
use Rattle.heco_material.specs.KeyLists.{lists_of}
use Rattle.heco_jobs.specs.Products.{Stores}
use Rattle.heco_tasks.specs.CircuitTasks.{two_files}
use Rattle.heco_tasks.proofs.KeyLaws.{made_is}
use Rattle.heco_tasks.proofs.keys.keys_product.Goals as goal

pub returns : goal.returns
returns c =
    let k = c.args.k.now in
    let e = c.in_ok-secret.evaluation in
    let made = c.in_ok-secret.ensures in
    let key = made_key k.preset.n k.needs.relin k.needs.turns (lists_of k) in
    let first : c.in_ok-first.first ≡ secret_text k.preset.id k.s =
    c.in_ok-first.ensures.text ∙ (ap (λ p. secret_text p.id c.in_ok-secret.secret.places) made.secret.0 ∙ ap (secret_text k.preset.id) made.secret.1) in
    let second : c.in_ok-second.second ≡ eval_text k.preset.id key =
    c.in_ok-second.ensures.text ∙ (ap (λ p. eval_text p.id (eval_lists_of e)) made.preset ∙ ap (eval_text k.preset.id) (made_is k e made.needs.0 made.needs.1 made.first made.second made.switch)) in
    subst (λ f. IfOk c.storing_two.result (Stores (two_files f (eval_text k.preset.id key)))) first
    (subst (λ s. IfOk c.storing_two.result (Stores (two_files c.in_ok-first.first s))) second c.storing_two.ensures)
