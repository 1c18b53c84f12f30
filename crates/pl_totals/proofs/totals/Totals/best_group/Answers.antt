use Rattle.std.proofs.Common.{◌≡◌, ◌∙◌, ◌++◌, ◌∷◌, [], Global, List, String, ap, map, nat_eq, subst, sym, true, ℕ}
use Rattle.std.specs.List.{starts_with}
use Rattle.std.specs.Map.Iter.{deref_pair}
use Rattle.std.specs.Option.{option_map}
use Rattle.std.specs.String.{string_bytes}
use Rattle.std.proofs.lemmas.Map.Iter.{rest_all, rest_more, rest_so_far}
use Rattle.std.proofs.lemmas.Str.Pattern.{starts_text}
use Rattle.pl_base.specs.View.{scored_views}
use Rattle.pl_totals.specs.Groups.{Grouped, grouped, is_enough, or_better}
use Rattle.pl_totals.proofs.Beginnings.{from_text}
use Rattle.pl_totals.proofs.Best.{IsBest, best_next, fills, shown, shown_more}
use Rattle.pl_totals.proofs.Told.{best_of_front}
use Rattle.pl_totals.proofs.totals.Totals.best_group.Goals as goal

pub loop-name-preserved : goal.loop-name-preserved
loop-name-preserved c =
    let text : List ℕ = string_bytes c.args.text.now in
    let named : starts_with nat_eq c.as_str.result.now text ≡ true =
    rw (← c.as_str-in-loop-name.ensures.value)
    (sym (starts_text c.starts_with.result c.as_str-in-loop-name.result.now c.as_str.result.now
    c.starts_with.ensures.cases) ∙ c.if-not-starts_with.false) in
    let group : Grouped = (c.as_str.result.now, c.in-Some.total.now) in
    subst (IsBest (fills c.args.self.now text) (shown (c.loop-name.yielded ++ (c.in-Some.name, c.in-Some.total) ∷ [])))
    (sym c.or_better-best.ensures)
    (subst (λ (gs : List Grouped). IsBest (fills c.args.self.now text) gs
    (or_better (is_enough c.args.self.now) group (option_map grouped c.loop-name.best)))
    (shown_more c.loop-name.yielded c.in-Some.name c.in-Some.total c.as_str.result.now
    c.as_str.ensures.value)
    (best_next (is_enough c.args.self.now) (λ (g : Grouped). starts_with nat_eq g.0 text) (shown c.loop-name.yielded)
    (option_map grouped c.loop-name.best) group named c.loop-name.invariant))

pub returns-in-None : goal.returns-in-None
returns-in-None c views stands =
    let part : List (String Global × ℕ) = map deref_pair c.loop-name.yielded in
    let whole : from_text c.args.text.now c.args.self.now.groups.totals.entries ≡ part ++ [] =
    sym (c.range-name-items.ensures.between tt) ∙ sym c.into_iter-name-iterator.ensures.into_iter_gives
    ∙ rest_so_far deref_pair c.loop-name.yielded _ _ c.loop-name.yielded_by
    ∙ ap (λ l. part ++ l) (rest_all deref_pair _ _ _ c.in-None.is c.next.ensures.steps) in
    best_of_front c.args.self.now c.args.text.now (scored_views views) stands.told c.range-name-items.ensures.ordered
    part [] whole tt (option_map grouped c.loop-name.best) c.loop-name.invariant

pub returns-then-not-starts_with : goal.returns-then-not-starts_with
returns-then-not-starts_with c views stands =
    let part : List (String Global × ℕ) = map deref_pair c.loop-name.yielded in
    let rest : List (String Global × ℕ) = (c.in-Some.name.now, c.in-Some.total.now) ∷ c.next.new.self in
    let whole : from_text c.args.text.now c.args.self.now.groups.totals.entries ≡ part ++ rest =
    sym (c.range-name-items.ensures.between tt) ∙ sym c.into_iter-name-iterator.ensures.into_iter_gives
    ∙ rest_so_far deref_pair c.loop-name.yielded _ _ c.loop-name.yielded_by
    ∙ ap (λ l. part ++ l) (rest_more deref_pair _ _ _ _ c.in-Some.is c.next.ensures.steps) in
    best_of_front c.args.self.now c.args.text.now (scored_views views) stands.told c.range-name-items.ensures.ordered
    part rest whole
    (rw (← c.as_str.ensures.value, ← c.as_str-in-loop-name.ensures.value)
    (sym (starts_text c.starts_with.result c.as_str-in-loop-name.result.now c.as_str.result.now
    c.starts_with.ensures.cases) ∙ c.if-not-starts_with.true))
    (option_map grouped c.loop-name.best) c.loop-name.invariant
