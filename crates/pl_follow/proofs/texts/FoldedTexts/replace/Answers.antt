use Rattle.std.proofs.Common.{◌∙◌, Some, refl, sym}
use Rattle.std.proofs.lemmas.Option.{same_Some}
use Rattle.std.proofs.lemmas.Result.{on_ok_weaker}
use Rattle.pl_follow.specs.Changes.{without_id}
use Rattle.pl_follow.specs.Texts.{folded_of}
use Rattle.pl_follow.proofs.TextsFollow.{left_alone, new_prefix, old_kept, taken_out}
use Rattle.pl_base.proofs.IdsLaws.{same_page}
use Rattle.pl_follow.proofs.texts.FoldedTexts.replace.Goals as goal

pub returns-then-have_same_texts : goal.returns-then-have_same_texts
returns-then-have_same_texts c views stands suits =
    left_alone c.args.self.now c.args.old.now c.args.new.now views stands suits
    (same_page c.args.old.now.id c.args.new.now.id (sym c.eq.ensures ∙ c.if-eq.true))
    (c.have_same_texts.ensures c.if-have_same_texts.true)

pub unwrap-kept-requires : goal.unwrap-kept-requires
unwrap-kept-requires c =
    rw (c.remove.ensures.value
    ∙ old_kept c.args.self.now c.args.old.now (Some c.args.new.now) c.requires.change.views c.requires.change.stood
    c.requires.change.suits) refl

pub refolded-requires-clause-kept : goal.refolded-requires-clause-kept
refolded-requires-clause-kept c =
    same_Some c.unwrap-kept.result (folded_of c.args.old.now)
    (sym c.unwrap-kept.ensures ∙ c.remove.ensures.value
    ∙ old_kept c.args.self.now c.args.old.now (Some c.args.new.now) c.requires.change.views c.requires.change.stood
    c.requires.change.suits)

pub refolded-requires-clause-prefix : goal.refolded-requires-clause-prefix
refolded-requires-clause-prefix c =
    new_prefix (Some c.args.old.now) c.args.new.now c.requires.change.views c.requires.change.suits

pub returns : goal.returns
returns c =
    on_ok_weaker c.put_in.result (λ puts views stands suits.
    puts (without_id c.args.old.now.id views)
    (taken_out c.args.self.now (record { pages = c.remove.new.self }) c.args.old.now views c.remove.ensures.updates
    stands suits.goes) suits.comes) c.put_in.ensures
