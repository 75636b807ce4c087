use Rattle.containers.proofs.Writing.{nine_more}
use Rattle.containers.proofs.listed.write_listing.Goals as goal

pub returns-clause-tokens : goal.returns-clause-tokens
returns-clause-tokens c =
    nine_more _ _ _ _ _ _ _ _ _ _ _ _ _ _ _ _ _ _ _ c.in_ok-begin_object.ensures.ok c.in_ok-key.ensures.ok c.in_ok-begin_array.ensures.ok
    c.in_ok-end_array.ensures.ok c.in_ok-key-2.ensures.ok c.in_ok-begin_array-2.ensures.ok c.in_ok-write_children.ensures.tokens
    c.in_ok-end_array-2.ensures.ok c.in_ok-end_object.ensures.ok
