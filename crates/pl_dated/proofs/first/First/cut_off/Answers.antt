use Rattle.std.proofs.Common.{◌∙◌, ◌≤◌, List, ap, length, map, refl, subst, sym, ℕ}
use Rattle.std.proofs.lemmas.List.{length-map}
use Rattle.pl_dated.specs.declared.first.FoundVisit.{FoundVisit}
use Rattle.pl_dated.specs.Latest.{first_seen, last_date, seen}
use Rattle.pl_dated.proofs.FirstLaws.{keeps_cut}
use Rattle.pl_dated.proofs.first.First.cut_off.Goals as goal

pub returns : goal.returns
returns c most visits k =
    let found = c.args.self.now.found.items in
    keeps_cut most c.args.self.now
    (record { found = c.cut.new.found; most = c.args.self.now.most; floor = c.last_date-self.result }) visits k
    (subst (λ (n : ℕ). n ≤ length (map seen found)) k.most_is
    (subst (λ (n : ℕ). c.args.self.now.most ≤ n) (sym (length-map found seen)) c.requires))
    (λ apart. c.cut.ensures apart ∙ ap (λ (n : ℕ). first_seen n (map seen found)) k.most_is) refl
    (c.last_date-self.ensures ∙ ap (λ (fs : List FoundVisit). last_date (map seen fs)) c.deref.ensures.value)
