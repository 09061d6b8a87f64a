-- What stands around statements, and in their making, with other numbers of modules.
use Rattle.std.specs.Option.{option_map}
use Rattle.check_stmt_parts.specs.declared.around.Around.{Around}
use Rattle.check_stmt_parts.specs.declared.control.Control.{Control}
use Rattle.check_stmt_parts.specs.declared.control.Course.{Course}
use Rattle.check_stmt_parts.specs.declared.ranges.Point.{Point}
use Rattle.def_exchange.specs.Moved.{Exchange, moved_type}
use Rattle.law_exchange_types.specs.Pieces.{map_ok}
use Rattle.law_exchange_types.specs.Trees.{moved_place, moved_expr}

module _ (x : Exchange) where
  abbrev pub moved_around : {T : Type 0} → Around T → Around T
  moved_around w =
      record { gives = option_map (map_ok (moved_type x)) w.gives; in_loop = w.in_loop }

  abbrev pub moved_control : Control → Control
  moved_control c = record {
    «of» = moved_type x c.«of»;
    base = moved_type x c.base;
    place = moved_place x c.place;
  }

  abbrev pub moved_course : Course → Course
  moved_course c = record {
    control = moved_control c.control;
    start = moved_expr x c.start;
    limit = moved_expr x c.limit;
    by = c.by;
  }

  -- where labels stand
  abbrev pub moved_point : Point → Point
  moved_point p =
      record { home = option_map x.there p.home; place = p.place; number = p.number }
