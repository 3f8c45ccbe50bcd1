use Rattle.queue_bytes.proofs.loading.queue_in.Goals as goal

pub returns : goal.returns
returns c =
    let edges = c.edges_in.ensures in
    let keys = c.keys_in.ensures in
    let ready = c.number_at.ensures in
    λ i. record { waiting = edges i; down = keys i; ready = ready i }
