-- The orders are total, field by field.
use Rattle.vault_model.proofs.Orders.{content_order, group_content_order, settings_order}
use Rattle.vault_model.proofs.contents.laws.total_orders.Goals as goal

pub returns-clause-versions : goal.returns-clause-versions
returns-clause-versions c = content_order.total

pub returns-clause-one_version : goal.returns-clause-one_version
returns-clause-one_version c = content_order.same

pub returns-clause-groups : goal.returns-clause-groups
returns-clause-groups c = group_content_order.total

pub returns-clause-one_group : goal.returns-clause-one_group
returns-clause-one_group c = group_content_order.same

pub returns-clause-settings : goal.returns-clause-settings
returns-clause-settings c = settings_order.total

pub returns-clause-one_setting : goal.returns-clause-one_setting
returns-clause-one_setting c = settings_order.same
