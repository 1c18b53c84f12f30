use Rattle.pl_place.specs.declared.key.Key.TheVariants as key
use Rattle.pl_place.proofs.KeyNames.{unlike}
use Rattle.pl_place.proofs.key.Key.named.Goals as goal

pub returns-in_default : goal.returns-in_default
returns-in_default c =
    rw (
      unlike key.BeginTime c.args.name.now c.in_default.not-beginTime,
      unlike key.BeginTimeRef c.args.name.now c.in_default.not-beginTimeRef,
      unlike key.EndTime c.args.name.now c.in_default.not-endTime,
      unlike key.EndTimeRef c.args.name.now c.in_default.not-endTimeRef,
      unlike key.Terms c.args.name.now c.in_default.not-terms,
      unlike key.MinVisits c.args.name.now c.in_default.not-minVisits,
      unlike key.MaxVisits c.args.name.now c.in_default.not-maxVisits,
      unlike key.OnlyBookmarked c.args.name.now c.in_default.not-onlyBookmarked,
      unlike key.DomainIsHost c.args.name.now c.in_default.not-domainIsHost,
      unlike key.Domain c.args.name.now c.in_default.not-domain,
      unlike key.Uri c.args.name.now c.in_default.not-uri,
      unlike key.Parent c.args.name.now c.in_default.not-parent,
      unlike key.Tag c.args.name.now c.in_default.not-tag,
      unlike key.NotTags c.args.name.now c.in_default.not-text,
      unlike key.Transition c.args.name.now c.in_default.not-transition,
      unlike key.Sort c.args.name.now c.in_default.not-sort,
      unlike key.Type c.args.name.now c.in_default.not-type,
      unlike key.QueryType c.args.name.now c.in_default.not-queryType,
      unlike key.IncludeHidden c.args.name.now c.in_default.not-includeHidden,
      unlike key.MaxResults c.args.name.now c.in_default.not-maxResults,
      unlike key.ExcludeQueries c.args.name.now c.in_default.not-excludeQueries,
    )
