use Rattle.std.proofs.Common.{◌∙◌, rules, sym}
use Rattle.pl_bar.proofs.PageTiers.{IsWalked, has_row, no_tier, tier_told, walked}
use Rattle.pl_bar.proofs.tiers.tier.Given.{Over}
use Rattle.pl_bar.proofs.tiers.tier.Goals as goal
use Rattle.pl_bar.proofs.tiers.tier.Goals.{After-words_stand-standing, else-ne-via-else-ne}
use Rattle.pl_bar.proofs.tiers.tier.Goals.{else-ne-via-then-ne+else-not-is_kept}

pub is_kept-requires-clause-page : goal.is_kept-requires-clause-page
is_kept-requires-clause-page g c =
    has_row (g.R.Rows.kept c.args.rows.now) (g.met.R.Rows.well_kept c.args.rows.now) c.args.asked.now.text c.args.page
    c.requires.counted

-- the page is gone through
is_walked : (g : Over) (c : After-words_stand-standing g)
    → IsWalked (g.R.Rows.kept c.args.rows.now) c.args.asked.now.text c.args.page c.words_stand-standing.result
is_walked g c =
    walked (g.R.Rows.kept c.args.rows.now) (g.met.R.Rows.well_kept c.args.rows.now) c.args.asked.now.text c.args.page
    c.words_stand-standing.result c.args.texts.now c.requires.texts c.requires.counted c.words_stand-standing.ensures

pub returns-then-not-is_kept-clause-tier : goal.returns-then-not-is_kept-clause-tier
returns-then-not-is_kept-clause-tier g c =
    no_tier (g.R.Rows.kept c.args.rows.now) (g.met.R.Rows.well_kept c.args.rows.now) c.args.asked.now.text c.args.page
    c.words_stand-standing.result
    (is_walked g (goal.at.returns-then-not-is_kept-clause-tier g c).After-words_stand-standing)
    (sym c.is_kept.ensures.kept ∙ c.if-not-is_kept.true)

pub returns-clause-tier : goal.returns-clause-tier
returns-clause-tier g c =
    tier_told (g.R.Rows.kept c.args.rows.now) (g.met.R.Rows.well_kept c.args.rows.now) c.args.asked.now.text c.args.page
    c.words_stand-standing.result (is_walked g (goal.at.returns-clause-tier g c).After-words_stand-standing)
    (λ some. elim c.else-ne.branch [
      | else-ne-via-then-ne+else-not-is_kept w ↦ sym w.is_kept.ensures.kept ∙ w.if-not-is_kept.false
      | else-ne-via-else-ne w ↦ absurd (some (search rules))
    ])
