-- The store on another day, and the pages whose frecency that changes.
use Rattle.std.specs.Prelude.{ℕ, not}
use Rattle.std.specs.List.{count_by}
use Rattle.std.specs.Ordering.{int_eq}
use Rattle.pl_base.specs.declared.date.Day.{Day}
use Rattle.pl_base.specs.Frecency.{frecency_of}
use Rattle.pl_base.specs.Store.{Store, Page}

-- the store on this day
abbrev pub on_day : Day → Store → Store
on_day day store = record store { day = day }

-- how many pages have another frecency on this day
abbrev pub pages_moved : Day → Store → ℕ
pages_moved day store =
    count_by (λ (p : Page). not (int_eq (frecency_of store p) (frecency_of (on_day day store) p)))
    store.pages
