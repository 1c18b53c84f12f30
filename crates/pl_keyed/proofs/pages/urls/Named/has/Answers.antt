use Rattle.std.proofs.Common.{◌∙◌, ap}
use Rattle.std.specs.Option.{is_some}
use Rattle.pl_keyed.proofs.KeyLookups.{found_address}
use Rattle.pl_keyed.proofs.pages.urls.Named.has.Goals as goal

pub returns : goal.returns
returns c =
    record {
      has =
          c.contains_key.ensures
          ∙ ap is_some (found_address c.args.self.now.urls c.in_ok-address.address c.args.url.now
          c.in_ok-address.ensures.digest c.in_ok-address.ensures.text);
    }
