-- The parts of an engine.
use Rattle.pl_known.specs.declared.known.Known.{Known}
use Rattle.pl_engine.specs.declared.parts.Parts.{Parts}

-- what they know of the pages
abbrev pub known_in : {R : Type 0} → Parts R → Known
known_in parts =
    record {
      views = parts.views;
      urls = parts.urls;
      order = parts.order;
      texts = parts.texts;
      calendar = parts.calendar;
      totals = parts.totals;
    }
