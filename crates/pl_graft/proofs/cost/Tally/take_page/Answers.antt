-- A page that is counted is the next one of the store.
use Rattle.std.proofs.Common.{◌≡◌, ◌∙◌, ◌+◌, ℕ, List, ap, if◌then◌else◌, refl, rules, subst, sym}
use Rattle.std.specs.Option.{is_none}
use Rattle.pl_base.specs.Live.{chunks}
use Rattle.pl_base.specs.Visiting.{new_page}
use Rattle.pl_keyed.specs.KnownPages.{IsEntered}
use Rattle.pl_graft.proofs.FoundPages.{found_number, new_number}
use Rattle.pl_graft.proofs.TallyLaws.{page_passed, page_taken}
use Rattle.pl_graft.proofs.cost.Tally.take_page.Goals as goal

pub returns-in-Found-clause-page : goal.returns-in-Found-clause-page
returns-in-Found-clause-page c store t =
    found_number store c.args.url.now c.in-Found.page
    (subst (IsEntered store.pages c.args.url.now) c.in-Found.is (c.in_ok-entered.ensures.entered store.pages t.pages))

pub returns-in-Found-clause-tally : goal.returns-in-Found-clause-tally
returns-in-Found-clause-tally c store t =
    page_passed c.args.self.now store c.args.url.now c.enter.new.self c.in-Found.page t
    (subst (IsEntered store.pages c.args.url.now) c.in-Found.is (c.in_ok-entered.ensures.entered store.pages t.pages))
    (c.in_ok-entered.ensures.pages store.pages (new_page store c.args.url.now) t.pages refl (sym t.page))

pub returns-in-Added-clause-page : goal.returns-in-Added-clause-page
returns-in-Added-clause-page c store t =
    let added = subst (IsEntered store.pages c.args.url.now) c.in-Added.is
    (c.in_ok-entered.ensures.entered store.pages t.pages) in
    t.page ∙ new_number store c.args.url.now added.0

pub returns-in-Added-clause-tally : goal.returns-in-Added-clause-tally
returns-in-Added-clause-tally c store t =
    let url : List ℕ = c.args.url.now in
    let added = subst (IsEntered store.pages url) c.in-Added.is (c.in_ok-entered.ensures.entered store.pages t.pages) in
    let origin : c.from.result ≡ (if is_none c.in-Added.other then 1 else 0) = search rules in
    page_taken c.args.self.now store url c.enter.new.self (1 + c.chunks.result + c.from.result) c.in-Added.other t
    added.0 added.1
    (c.in_ok-entered.ensures.pages store.pages (new_page store url) t.pages refl (sym t.page))
    (ap (λ (n : ℕ). 1 + n + c.from.result) (c.chunks.ensures ∙ ap chunks c.text.ensures.value)
    ∙ ap (λ (n : ℕ). 1 + chunks url + n) origin)
