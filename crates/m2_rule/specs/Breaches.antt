-- Rules that are broken at places, and which of them is the least.
use Rattle.std.specs.Prelude.{Bool, cond, ◌&&◌, ◌||◌, ◌==◌, nat_lt}
use Rattle.m2_tree.specs.declared.pos.Pos.{Pos}
use Rattle.m2_rule.specs.declared.breach.Breach.{Breach}
use Rattle.m2_rule.specs.declared.rule.Rule.{Rule}
use Rattle.m2_rule.specs.RuleNumber.{number_of, is_last}

abbrev pub breach : Pos → Rule → Breach
breach pos broken = record { pos = pos; number = number_of broken; is_last = is_last broken }

-- by place, and then by number
abbrev pub is_before : Breach → Breach → Bool
is_before f g =
    nat_lt f.pos.line g.pos.line
    || (f.pos.line == g.pos.line
    && (nat_lt f.pos.col g.pos.col || (f.pos.col == g.pos.col && nat_lt f.number g.number)))

-- What is reported only if nothing else is comes last, whatever its place.
abbrev pub is_less : Breach → Breach → Bool
is_less f g = cond f.is_last (g.is_last && is_before f g) (g.is_last || is_before f g)

abbrev pub lesser : Breach → Breach → Breach
lesser f g = cond (is_less g f) g f
