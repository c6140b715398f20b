-- What the writers hold.
use Rattle.std.specs.Prelude.{ℕ, Bool, List, Option, Some, vec_capacity}
use Rattle.cbor4ii_rw.specs.Writer.{Output}
use Rattle.cbor4ii_rw.specs.declared.buf_writer.BufWriter.{BufWriter}
use Rattle.cbor4ii_rw.specs.declared.io_writer.IoWriter.{IoWriter}

-- a writer into a vector reports all that it holds
abbrev pub buffer_output : BufWriter → Output
buffer_output writer = record { written = Some writer.bytes.items; failures = writer.failures }

-- how many bytes a writer into a vector can hold before it asks for memory
abbrev pub buffer_capacity : BufWriter → ℕ
buffer_capacity writer = vec_capacity writer.bytes

-- a writer into a stream reports what the stream reports; the first argument is what a stream holds
abbrev pub stream_output : {W : Type 0} → (W → Option (List ℕ)) → IoWriter W → Output
stream_output contents writer = record {
  written = contents writer.inner;
  failures = writer.failures;
}

-- the stream was flushed, and nothing was pushed since
abbrev pub is_flushed : {W : Type 0} → IoWriter W → Bool
is_flushed writer = writer.flushed
