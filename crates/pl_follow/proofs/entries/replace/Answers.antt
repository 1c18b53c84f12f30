use Rattle.std.proofs.Common.{◌∙◌, Some, refl, sym}
use Rattle.std.proofs.lemmas.Option.{same_Some}
use Rattle.std.proofs.lemmas.Result.{on_ok_weaker}
use Rattle.pl_follow.specs.Changes.{without_id}
use Rattle.pl_follow.specs.Order.{sketch_of_texts}
use Rattle.pl_follow.specs.Texts.{folded_of}
use Rattle.pl_follow.proofs.EntriesFollow.{entry_same}
use Rattle.pl_follow.proofs.TextsFollow.{new_prefix}
use Rattle.pl_follow.proofs.entries.replace.Goals as goal

pub returns-then-have_same_texts : goal.returns-then-have_same_texts
returns-then-have_same_texts c =
    λ views keeps suits.
    entry_same c.args.entries.now c.args.old.now c.args.new.now views keeps suits
    (c.have_same_rank.ensures c.if-have_same_rank.true) (c.have_same_texts.ensures c.if-have_same_texts.true)

pub unwrap-kept-requires : goal.unwrap-kept-requires
unwrap-kept-requires c =
    let change = c.requires.change in
    rw (c.take_out.ensures.sketch change.views change.stood change.suits.goes) refl

pub sketched_anew-requires-clause-kept : goal.sketched_anew-requires-clause-kept
sketched_anew-requires-clause-kept c =
    let change = c.requires.change in
    same_Some c.unwrap-kept.result (sketch_of_texts (folded_of c.args.old.now))
    (sym c.unwrap-kept.ensures ∙ c.take_out.ensures.sketch change.views change.stood change.suits.goes)

pub sketched_anew-requires-clause-prefix : goal.sketched_anew-requires-clause-prefix
sketched_anew-requires-clause-prefix c =
    new_prefix (Some c.args.old.now) c.args.new.now c.requires.change.views c.requires.change.suits

pub returns : goal.returns
returns c =
    on_ok_weaker c.put_in.result (λ puts views keeps suits.
    puts (without_id c.args.old.now.id views) (c.take_out.ensures.entries views keeps suits.goes) suits.comes)
    c.put_in.ensures
