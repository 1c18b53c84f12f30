use Rattle.std.proofs.Common.{◌∙◌, rules}
use Rattle.pl_follow.proofs.UrlsFollow.{kept_entries, put_in_hashed, put_in_others}
use Rattle.pl_follow.proofs.urls.UrlIndex.put_in.Goals as goal

pub returns-in-Vacant : goal.returns-in-Vacant
returns-in-Vacant c views =
    let free = (rw c.in-Vacant.is at c.in_ok-entry.ensures.found) in
    put_in_hashed c.args.self.now _ c.in_ok-url.url c.args.new.now views (c.in_ok-url.ensures.ok ∙ c.as_str.ensures)
    (search rules) (search (rules, free))

pub returns-in_ok-insert-in-Occupied : goal.returns-in_ok-insert-in-Occupied
returns-in_ok-insert-in-Occupied c views stands =
    put_in_others (record { hashed = _; others = c.args.self.now.others }) c.insert-in-Occupied.new.self c.in_ok-url.url
    c.args.new.now views (c.in_ok-url.ensures.ok ∙ c.as_str.ensures) c.in_ok-insert-in-Occupied.ensures.updates
    (kept_entries c.args.self.now _ views (search rules) stands)
