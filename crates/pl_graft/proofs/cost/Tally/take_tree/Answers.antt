-- Four lists are counted, each for its root.
use Rattle.std.proofs.Common.{ap, arith, inl, inr, refl}
use Rattle.std.proofs.lemmas.Result.{on_ok_weaker}
use Rattle.pl_base.specs.Store.{Store, item_id}
use Rattle.pl_graft.specs.Import.{with_list}
use Rattle.pl_graft.specs.Tally.{IsTallyOf, weight}
use Rattle.pl_graft.proofs.TreeSteps.{counted_list, light_tree}
use Rattle.pl_graft.proofs.cost.Tally.take_tree.Goals as goal

pub take_list-requires-clause-room : goal.take_list-requires-clause-room
take_list-requires-clause-room c =
    omega (
      arith,
      light_tree c.args.tree.now c.requires.formed c.requires.few,
      ap weight c.as_slice.ensures,
      c.requires.room,
    )

pub take_list-requires-2-clause-room : goal.take_list-requires-2-clause-room
take_list-requires-2-clause-room c =
    omega (
      arith,
      light_tree c.args.tree.now c.requires.formed c.requires.few,
      ap weight c.as_slice.ensures,
      ap weight c.as_slice-2.ensures,
      c.in_ok-take_list.ensures.few,
      c.requires.room,
    )

pub take_list-requires-3-clause-room : goal.take_list-requires-3-clause-room
take_list-requires-3-clause-room c =
    omega (
      arith,
      light_tree c.args.tree.now c.requires.formed c.requires.few,
      ap weight c.as_slice.ensures,
      ap weight c.as_slice-2.ensures,
      ap weight c.as_slice-3.ensures,
      c.in_ok-take_list.ensures.few,
      c.in_ok-take_list-2.ensures.few,
      c.requires.room,
    )

pub take_list-requires-4-clause-room : goal.take_list-requires-4-clause-room
take_list-requires-4-clause-room c =
    omega (
      arith,
      light_tree c.args.tree.now c.requires.formed c.requires.few,
      ap weight c.as_slice.ensures,
      ap weight c.as_slice-2.ensures,
      ap weight c.as_slice-3.ensures,
      ap weight c.as_slice-4.ensures,
      c.in_ok-take_list.ensures.few,
      c.in_ok-take_list-2.ensures.few,
      c.in_ok-take_list-3.ensures.few,
      c.requires.room,
    )

pub returns : goal.returns
returns c =
    let tree = c.args.tree.now in
    on_ok_weaker c.take_list-4.result
    (λ mobile_counted store t.
    let menu : Store = with_list (item_id 2) tree.menu store in
    let toolbar : Store = with_list (item_id 3) tree.toolbar menu in
    let unfiled : Store = with_list (item_id 5) tree.unfiled toolbar in
    let one : IsTallyOf c.take_list.new.self menu =
    counted_list c.args.self.now c.take_list.new.self store 2 tree.menu c.as_slice.result.now c.as_slice.ensures t
    (inl refl) c.in_ok-take_list.ensures.tally in
    let two : IsTallyOf c.take_list-2.new.self toolbar =
    counted_list c.take_list.new.self c.take_list-2.new.self menu 3 tree.toolbar c.as_slice-2.result.now
    c.as_slice-2.ensures one (inr (inl refl)) c.in_ok-take_list-2.ensures.tally in
    let three : IsTallyOf c.take_list-3.new.self unfiled =
    counted_list c.take_list-2.new.self c.take_list-3.new.self toolbar 5 tree.unfiled c.as_slice-3.result.now
    c.as_slice-3.ensures two (inr (inr (inl refl))) c.in_ok-take_list-3.ensures.tally in
    counted_list c.take_list-3.new.self c.take_list-4.new.self unfiled 6 tree.mobile c.as_slice-4.result.now
    c.as_slice-4.ensures three (inr (inr (inr refl))) mobile_counted)
    c.take_list-4.ensures.tally
