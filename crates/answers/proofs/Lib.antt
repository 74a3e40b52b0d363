mod Apart
mod Bytes
