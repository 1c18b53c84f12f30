-- A page more, with its texts and its origin.
use Rattle.std.proofs.Common.{◌≡◌, ◌∙◌, ◌+◌, ℕ, List, ap, if◌then◌else◌, rules, subst, sym}
use Rattle.std.specs.Option.{is_none}
use Rattle.pl_base.specs.Live.{chunks}
use Rattle.pl_base.specs.Visiting.{find_page}
use Rattle.pl_keyed.specs.KnownPages.{IsOriginPage}
use Rattle.pl_graft.proofs.SparedSteps.{last_taken}
use Rattle.pl_graft.proofs.cost.Tally.add_page.Goals as goal

pub returns-clause-tally : goal.returns-clause-tally
returns-clause-tally c store p t none at titled id =
    let origin : c.from.result ≡ (if is_none c.in_ok-other.other then 1 else 0) = search rules in
    last_taken c.args.self.now store p c.put.new.self (1 + c.chunks.result + c.chunks-2.result + c.from.result)
    c.in_ok-other.other t (ap (λ (u : List ℕ). find_page u store.pages) at ∙ none)
    (subst (λ (u : List ℕ). IsOriginPage store.pages u c.in_ok-other.other) (sym at)
    (c.in_ok-other.ensures.origin store.pages t.pages))
    (c.in_ok-other.ensures.pages store.pages p t.pages none at id)
    (ap (λ (n : ℕ). 1 + n + c.chunks-2.result + c.from.result) (c.chunks.ensures ∙ ap chunks (sym at))
    ∙ ap (λ (n : ℕ). 1 + chunks p.url + n + c.from.result) (c.chunks-2.ensures ∙ ap chunks (sym titled))
    ∙ ap (λ (n : ℕ). 1 + chunks p.url + chunks p.title + n) origin)
