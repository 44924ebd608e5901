mod AppendWanted
mod PutUnder
mod RecordRows
