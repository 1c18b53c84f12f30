use Rattle.std.proofs.Common.{◌∙◌, ◌++◌, Bool, [], ◌∷◌, if◌then◌else◌, subst, sym}
use Rattle.std.proofs.lemmas.Result.{on_ok_weaker}
use Rattle.pl_dated.specs.Latest.{Keeps, seen}
use Rattle.pl_dated.proofs.visits.add_in_times.Goals as goal

pub returns : goal.returns
returns c =
    on_ok_weaker c.add.result
    (λ adds store asked most visits k.
    subst (λ (b : Bool). Keeps most c.add.new.self (visits ++ (if b then seen c.args.found ∷ [] else [])))
    (sym (sym (c.is_in_times.ensures store asked) ∙ c.if-not-is_in_times.false))
    (adds most visits k))
    c.add.ensures
