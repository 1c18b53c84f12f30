use Rattle.std.proofs.Common.{◌∙◌}
use Rattle.std.proofs.lemmas.Bool.Decides.{Decides-eqb}
use Rattle.std.proofs.lemmas.Slice.Eq.{strip_suffix_is}
use Rattle.pl_conditions.proofs.HostEnds.{none_before, stop_before}
use Rattle.pl_conditions.proofs.conditions.address.is_below.Goals as goal

pub returns-in-Some : goal.returns-in-Some
returns-in-Some c =
    c.ends_with.ensures.value
    ∙ stop_before c.args.domain.now c.args.host.now c.in-Some.front.now
    (rw (c.as_bytes.ensures.value, c.as_bytes-2.ensures.value, c.in-Some.is)
    at (strip_suffix_is Decides-eqb c.as_bytes.result.now c.as_bytes-2.result.now c.strip_suffix.result
    c.strip_suffix.ensures.cases))

pub returns-in-None : goal.returns-in-None
returns-in-None c =
    none_before c.args.domain.now c.args.host.now
    (rw (c.as_bytes.ensures.value, c.as_bytes-2.ensures.value, c.in-None.is)
    at (strip_suffix_is Decides-eqb c.as_bytes.result.now c.as_bytes-2.result.now c.strip_suffix.result
    c.strip_suffix.ensures.cases))
