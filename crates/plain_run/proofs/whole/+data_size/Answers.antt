use Rattle.plain_run.proofs.Wholes.{data_none, data_more}
use Rattle.plain_run.proofs.whole.+data_size.Goals as goal

pub returns-in-empty : goal.returns-in-empty
returns-in-empty t c = data_none c.args.homes.now c.in-empty.len_below

pub returns-in_ok-data_size-in-len1-up : goal.returns-in_ok-data_size-in-len1-up
returns-in_ok-data_size-in-len1-up t c =
    data_more c.args.homes.now c.home-item.result c.in_ok-blank-in-len1-up.blank c.in_ok-texts_size-in-len1-up.field-0
    c.in_ok-own-in-len1-up.own c.in_ok-data_size-in-len1-up.field-0 c.plus-in-len1-up.result c.in-len1-up.len_at_least
    c.home-item.is c.in_ok-blank-in-len1-up.ensures c.in_ok-texts_size-in-len1-up.ensures c.in_ok-own-in-len1-up.ensures
    c.in_ok-data_size-in-len1-up.ensures c.plus-in-len1-up.ensures
