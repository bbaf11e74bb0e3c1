use Rattle.received_requests.proofs.responses.what_is_received_is_executed.Goals as goal

pub returns : goal.returns
returns c r p alias q is =
    let asks = c.the_operation_that_is_sent_is_picked.ensures.asks r p alias q is in
    record {
      operation = asks.0;
      root = p.root;
      values = p.values;
      picked = asks.1;
      on_root = c.the_operation_that_is_sent_is_picked.ensures.kind r p alias q asks.0 is asks.1;
      are_values = c.the_values_of_variables_are_kept.ensures r p alias q asks.0 is asks.1;
    }
