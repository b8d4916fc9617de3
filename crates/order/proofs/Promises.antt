-- The promises of crate order, each from its proof.
use Rattle.order.specs.Promises.{Promises}
use Rattle.order.proofs.Order.{rules, order, any_order}
use Rattle.order.proofs.Sheets.{sheets}
use Rattle.order.proofs.Short.{short_form}
use Rattle.order.proofs.Settled.{settling, settled_more}
use Rattle.order.proofs.Worked.{worked}

pub promises : Promises
promises =
    record {
      rules = rules;
      order = order;
      any_order = any_order;
      sheets = sheets;
      short_form = short_form;
      settling = settling;
      settled_more = settled_more;
      worked = worked;
    }
