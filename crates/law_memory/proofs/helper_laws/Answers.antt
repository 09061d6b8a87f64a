use Rattle.law_memory.proofs.Rounding.{divides_down}
use Rattle.law_memory.proofs.Helpers.{copy_runs, fill_runs, copy_called, fill_called, check_called, table_called}
use Rattle.law_memory.proofs.Divides.{div_called, mod_called}
use Rattle.law_memory.proofs.helper_laws.Goals as goal

pub returns-clause-copy_runs : goal.returns-clause-copy_runs
returns-clause-copy_runs c modules fx n calls m has k to from bytes out h a b small long =
    copy_runs modules fx n calls m has k to from bytes out h a b small long

pub returns-clause-fill_runs : goal.returns-clause-fill_runs
returns-clause-fill_runs c modules fx n calls m has k to bytes out h a long =
    fill_runs modules fx n calls m has k to bytes out h a long

pub returns-clause-copy_called : goal.returns-clause-copy_called
returns-clause-copy_called c modules fx extra n d loops m g own f index has st at_g e k to from s rest h a b small
    long =
    copy_called modules fx extra n d loops m g own f index has st at_g e k to from s rest h a b small long

pub returns-clause-fill_called : goal.returns-clause-fill_called
returns-clause-fill_called c modules fx extra n d loops m g own f index has st at_g e k to s rest h a long =
    fill_called modules fx extra n d loops m g own f index has st at_g e k to s rest h a long

pub returns-clause-check_called : goal.returns-clause-check_called
returns-clause-check_called c modules fx extra n d loops m g own f index st at_g e stops v lo hi k s rest =
    check_called modules fx extra n d loops m g own f index st at_g e stops v lo hi k s rest

pub returns-clause-div_called : goal.returns-clause-div_called
returns-clause-div_called k modules fx extra n d loops m g own f index c check_index st at_g e at_4 is stops x y s
    rest =
    div_called modules fx extra n d loops m g own f index c check_index st at_g e at_4 is stops x y s rest

pub returns-clause-mod_called : goal.returns-clause-mod_called
returns-clause-mod_called k modules fx extra n d loops m g own f index c check_index st at_g e at_4 is stops x y s
    rest =
    mod_called modules fx extra n d loops m g own f index c check_index st at_g e at_4 is stops x y s rest

pub returns-clause-table_called : goal.returns-clause-table_called
returns-clause-table_called k modules fx n calls m top g slot type own f t st at_g at_slot is same shape s rest =
    table_called modules fx n calls m top g slot type own f t st at_g at_slot is same shape s rest

pub returns-clause-divides_down : goal.returns-clause-divides_down
returns-clause-divides_down c x y lx hx ly hy = divides_down x y lx hx ly hy
