use Rattle.std.proofs.Common.{◌∙◌, ◌||◌, Bool, ap}
use Rattle.pl_keyed.specs.KnownPages.{names}
use Rattle.pl_keyed.specs.NamedUrls.{is_url}
use Rattle.pl_keyed.proofs.NamedSteps.{named_more, named_none}
use Rattle.pl_keyed.proofs.pages.urls.Named.add_list.Goals as goal

pub loop-node-init : goal.loop-node-init
loop-node-init c url = named_none c.args.nodes.now url (names c.args.self.now url)

pub loop-node-preserved : goal.loop-node-preserved
loop-node-preserved c url =
    c.in_ok-add.ensures.named url
    ∙ ap (λ (b : Bool). b || is_url url c.node-item.result.url) (c.loop-node.invariant url)
    ∙ named_more c.args.nodes.now c.loop-node.node-index c.node-item.result url (names c.args.self.now url)
    c.loop-node-test.true c.node-item.is
