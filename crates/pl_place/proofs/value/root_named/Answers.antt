use Rattle.std.specs.Prelude.{codes}
use Rattle.pl_place.proofs.KeyNames.{unlike_text}
use Rattle.pl_place.proofs.value.root_named.Goals as goal

pub returns-in_default : goal.returns-in_default
returns-in_default c =
    rw (
      unlike_text (codes "root________") c.args.name.now c.in_default.not-root________,
      unlike_text (codes "menu________") c.args.name.now c.in_default.not-menu________,
      unlike_text (codes "toolbar_____") c.args.name.now c.in_default.not-toolbar_____,
      unlike_text (codes "tags________") c.args.name.now c.in_default.not-tags________,
      unlike_text (codes "unfiled_____") c.args.name.now c.in_default.not-unfiled_____,
      unlike_text (codes "mobile______") c.args.name.now c.in_default.not-mobile______,
    )
