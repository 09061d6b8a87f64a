use Rattle.law_orders.proofs.Orders.{orders_link_alike, orders_behave}
use Rattle.law_orders.proofs.order_laws.Goals as goal

pub returns-clause-links : goal.returns-clause-links
returns-clause-links c = orders_link_alike

pub returns-clause-behave : goal.returns-clause-behave
returns-clause-behave c = orders_behave
