-- The keys of a `place:` text.
use Rattle.std.specs.Prelude.{ℕ, List, [], ◌∷◌, bytes_eq, codes, Option}
use Rattle.std.specs.List.{find}
use Rattle.pl_place.specs.declared.key.Key.{Key}
use Rattle.pl_place.specs.declared.key.Key.TheVariants as key

-- a key as it is written
abbrev pub key_name : Key → List ℕ
key_name key.BeginTime = codes "beginTime"
key_name key.BeginTimeRef = codes "beginTimeRef"
key_name key.EndTime = codes "endTime"
key_name key.EndTimeRef = codes "endTimeRef"
key_name key.Terms = codes "terms"
key_name key.MinVisits = codes "minVisits"
key_name key.MaxVisits = codes "maxVisits"
key_name key.OnlyBookmarked = codes "onlyBookmarked"
key_name key.DomainIsHost = codes "domainIsHost"
key_name key.Domain = codes "domain"
key_name key.Uri = codes "uri"
key_name key.Parent = codes "parent"
key_name key.Tag = codes "tag"
key_name key.NotTags = codes "!tags"
key_name key.Transition = codes "transition"
key_name key.Sort = codes "sort"
key_name key.Type = codes "type"
key_name key.QueryType = codes "queryType"
key_name key.IncludeHidden = codes "includeHidden"
key_name key.MaxResults = codes "maxResults"
key_name key.ExcludeQueries = codes "excludeQueries"

-- all keys, in the order in which a canonical text has them
abbrev pub keys : List Key
keys =
    key.BeginTime ∷ key.BeginTimeRef ∷ key.EndTime ∷ key.EndTimeRef ∷ key.Terms ∷ key.MinVisits
    ∷ key.MaxVisits ∷ key.OnlyBookmarked ∷ key.DomainIsHost ∷ key.Domain ∷ key.Uri ∷ key.Parent
    ∷ key.Tag ∷ key.NotTags ∷ key.Transition ∷ key.Sort ∷ key.Type ∷ key.QueryType
    ∷ key.IncludeHidden ∷ key.MaxResults ∷ key.ExcludeQueries ∷ []

-- the key that is written so
abbrev pub key_named : List ℕ → Option Key
key_named name = find (λ k. bytes_eq (key_name k) name) keys
