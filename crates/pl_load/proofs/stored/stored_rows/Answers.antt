use Rattle.std.proofs.Common.{◌∙◌, List, subst, sym}
use Rattle.std.proofs.lemmas.Result.{err_from_is_err_and}
use Rattle.std.specs.List.{All, AllZip}
use Rattle.pl_load.proofs.HeldKinds.{same_held}
use Rattle.pl_load.proofs.StoredLaws.{titles_held, urls_held}
use Rattle.pl_reading.specs.Read.{IsPageRead, IsVisitRead}
use Rattle.pl_reading.specs.Texts.{IsHeld}
use Rattle.pl_record.specs.declared.rows.Place.{Place}
use Rattle.pl_record.specs.declared.rows.Visit.{Visit}
use Rattle.pl_load.proofs.stored.stored_rows.Goals as goal

pub stored_pages-requires-clause-urls : goal.stored_pages-requires-clause-urls
stored_pages-requires-clause-urls g c =
    subst (All (λ (p : Place). IsHeld c.args.arena.now p.url)) (sym c.deref.ensures.value)
    (urls_held c.args.arena.now c.args.held.now.places.items c.args.held.now.items.items c.requires.texts)

pub stored_pages-requires-clause-titles : goal.stored_pages-requires-clause-titles
stored_pages-requires-clause-titles g c =
    subst (All (λ (p : Place). IsHeld c.args.arena.now p.title)) (sym c.deref.ensures.value)
    (titles_held c.args.arena.now c.args.held.now.places.items c.args.held.now.items.items c.requires.texts)

pub returns-in_err-pages-clause-none : goal.returns-in_err-pages-clause-none
returns-in_err-pages-clause-none g c told reads from =
    let p = err_from_is_err_and c.from_residual.result c.from_residual.ensures.1 in
    let same = same_held c.args.arena.now c.args.held.now reads c.requires.held from in
    c.in_err-pages.ensures.none (let both = sym p.1 ∙ told in let alike = p.2 in cc) reads.stored.pages
    (subst (λ (ps : List Place). AllZip (IsPageRead c.args.arena.now) ps reads.stored.pages)
    (same.places ∙ sym c.deref.ensures.value) from.stored_pages)

pub returns-in_default-clause-none : goal.returns-in_default-clause-none
returns-in_default-clause-none g c told reads from =
    let same = same_held c.args.arena.now c.args.held.now reads c.requires.held from in
    c.in_ok-visits.ensures.none c.in_default.is reads.stored.visits
    (subst (λ (vs : List Visit). AllZip (IsVisitRead c.args.arena.now) vs reads.stored.visits)
    (same.visits ∙ sym c.deref-2.ensures.value) from.stored_visits)

pub returns-in_err-tree_items-clause-none : goal.returns-in_err-tree_items-clause-none
returns-in_err-tree_items-clause-none g c told reads from =
    let p = err_from_is_err_and c.from_residual-in_err-tree_items.result c.from_residual-in_err-tree_items.ensures.1 in
    c.in_err-tree_items.ensures.none (let both = sym p.1 ∙ told in let alike = p.2 in cc) reads from
